use Rattle.std.proofs.Common.{◌≡◌, ◌∙◌, ◌++◌, List, ℕ, ap, subst, arith}
use Rattle.ndx_tree.specs.Trees.{TreeView}
use Rattle.ndx_tree.specs.IndexFile.{IsIndexFile}
use Rattle.ndx_tree.specs.IndexText.{IsIndexText}
use Rattle.ndx_tree.specs.Writes.{IsWritten, IsPageText}
use Rattle.ndx_tree.proofs.WholeFile.{file_written, text_written, pages_told}
use Rattle.ndx_tree.proofs.tree.NdxTree.write.Goals as goal

pub returns-clause-file : goal.returns-clause-file
returns-clause-file c =
    let bytes = c.extend_from_slice-2.new.self.items in
    let w = subst (λ k. IsWritten k 0 c.in_ok-root.root c.write.new.body.items c.self.inside.root)
    c.head_of-plan.ensures.length c.in_ok-root.ensures.written in
    subst (λ (v : TreeView). IsIndexFile bytes v.form v.pairs) c.self.view_is
    (file_written _ c.self.inside.root _ _ c.in_ok-root.root c.head_of-head.result c.write_head.result
    c.write.new.body.items bytes c.self.invariant.0 w (omega (arith, c.in_ok-root.ensures.end))
    c.write_head.ensures.reads (omega arith) c.head_of-head.ensures.length c.head_of-head.ensures.root
    (c.head_of-head.ensures.text ∙ c.as_slice-2.ensures.value)
    (c.in_ok-extend_from_slice-2.ensures.items ∙ ap (λ (m : List ℕ). m ++ c.deref.result.now)
    (c.in_ok-extend_from_slice.ensures.items ∙ ap (λ (m : List ℕ). m ++ c.write_head.result)
    c.new-bytes.ensures.items) ∙ ap (λ (m : List ℕ). c.write_head.result ++ m) c.deref.ensures.value)).0

pub returns-clause-back : goal.returns-clause-back
returns-clause-back c = λ form pairs stands.
    let bytes = c.extend_from_slice-2.new.self.items in
    let w = subst (λ k. IsWritten k 0 c.in_ok-root.root c.write.new.body.items c.self.inside.root)
    c.head_of-plan.ensures.length c.in_ok-root.ensures.written in
    let file = (file_written _ c.self.inside.root _ _ c.in_ok-root.root c.head_of-head.result c.write_head.result
    c.write.new.body.items bytes c.self.invariant.0 w (omega (arith, c.in_ok-root.ensures.end))
    c.write_head.ensures.reads (omega arith) c.head_of-head.ensures.length c.head_of-head.ensures.root
    (c.head_of-head.ensures.text ∙ c.as_slice-2.ensures.value)
    (c.in_ok-extend_from_slice-2.ensures.items ∙ ap (λ (m : List ℕ). m ++ c.deref.result.now)
    (c.in_ok-extend_from_slice.ensures.items ∙ ap (λ (m : List ℕ). m ++ c.write_head.result)
    c.new-bytes.ensures.items) ∙ ap (λ (m : List ℕ). c.write_head.result ++ m) c.deref.ensures.value)).0 in
    subst (λ (v : TreeView). (form ≡ v.form) × (pairs ≡ v.pairs)) c.self.view_is
    (c.holds_one_list.ensures bytes _ form _ pairs file stands)

pub returns-clause-text : goal.returns-clause-text
returns-clause-text c =
    let bytes = c.extend_from_slice-2.new.self.items in
    let w = subst (λ k. IsWritten k 0 c.in_ok-root.root c.write.new.body.items c.self.inside.root)
    c.head_of-plan.ensures.length c.in_ok-root.ensures.written in
    let is = c.in_ok-extend_from_slice-2.ensures.items ∙ ap (λ (m : List ℕ). m ++ c.deref.result.now)
    (c.in_ok-extend_from_slice.ensures.items ∙ ap (λ (m : List ℕ). m ++ c.write_head.result)
    c.new-bytes.ensures.items) ∙ ap (λ (m : List ℕ). c.write_head.result ++ m) c.deref.ensures.value in
    let file = file_written _ c.self.inside.root _ _ c.in_ok-root.root c.head_of-head.result c.write_head.result
    c.write.new.body.items bytes c.self.invariant.0 w (omega (arith, c.in_ok-root.ensures.end))
    c.write_head.ensures.reads (omega arith) c.head_of-head.ensures.length c.head_of-head.ensures.root
    (c.head_of-head.ensures.text ∙ c.as_slice-2.ensures.value) is in
    let text = subst (λ k. IsPageText k 0 c.in_ok-root.root c.new-body.result.items c.write.new.body.items
    c.self.inside.root.count) c.head_of-plan.ensures.length c.in_ok-root.ensures.text in
    let all = subst (λ (m : List ℕ). IsPageText c.self.inside.key_length 0 c.in_ok-root.root m c.write.new.body.items
    c.self.inside.root.count) c.new-body.ensures.items text in
    subst (λ (v : TreeView). IsIndexText bytes v.form v.pairs) c.self.view_is
    (text_written _ c.self.inside.root c.in_ok-root.root c.self.inside.root.count c.head_of-head.result
    c.write_head.result c.write.new.body.items bytes file.0 file.1 all (omega (arith, c.in_ok-root.ensures.end))
    (omega arith) c.write_head.ensures.exact c.head_of-head.ensures.length c.head_of-head.ensures.root
    c.head_of-head.ensures.pages (c.head_of-head.ensures.text ∙ c.as_slice-2.ensures.value) is)

pub returns-clause-pages : goal.returns-clause-pages
returns-clause-pages c = pages_told c.in_ok-root.root c.head_of-head.result c.write_head.result c.write.new.body.items
    c.extend_from_slice-2.new.self.items (omega (arith, c.in_ok-root.ensures.end)) c.write_head.ensures.reads
    (omega arith) c.head_of-head.ensures.pages
    (c.in_ok-extend_from_slice-2.ensures.items ∙ ap (λ (m : List ℕ). m ++ c.deref.result.now)
    (c.in_ok-extend_from_slice.ensures.items ∙ ap (λ (m : List ℕ). m ++ c.write_head.result) c.new-bytes.ensures.items)
    ∙ ap (λ (m : List ℕ). c.write_head.result ++ m) c.deref.ensures.value)
