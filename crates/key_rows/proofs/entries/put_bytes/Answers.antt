use Rattle.std.proofs.Common.{◌≡◌, ◌+◌, ◌-◌, ◌++◌, ◌∙◌, ℕ, List, length, take, drop, ap, arith}
use Rattle.byteorder.specs.Endian.{little_bytes}
use Rattle.key_rows.proofs.MovedBytes.{written_between}
use Rattle.key_rows.proofs.entries.put_bytes.Goals as goal

pub returns-clause-bytes : goal.returns-clause-bytes
returns-clause-bytes c =
    let number : List ℕ = little_bytes 4 c.args.number in
    let old = c.args.bytes.now.items in
    let key = c.args.key.now in
    let xs = c.add_pair.new.bytes.items in
    let ys = c.move_up.new.bytes.items in
    let zs = c.write_at.new.bytes.items in
    let end : c.len-end.result ≡ length old = omega (arith, c.len-end.ensures) in
    let moved : ys ≡ take (c.args.start + (length key + length number)) xs ++ take (length old - c.args.start)
    (drop c.args.start xs) = c.move_up.ensures.bytes
    ∙ ap (λ n. take (c.args.start + (length key + 4)) xs ++ take (n - c.args.start) (drop c.args.start xs)) end in
    let last = c.write_at-2.ensures.bytes ∙ ap
    (λ (m : List ℕ). take (c.args.start + length key) zs ++ (m ++ drop ((c.args.start + length key) + length m) zs))
    c.write_u32.ensures in
    written_between c.args.start old key number xs ys zs c.write_at-2.new.bytes.items (omega (arith, c.requires.within))
    c.add_pair.ensures.bytes moved c.write_at.ensures.bytes last
