-- What can be replaced as it was, and which names are those of files in the folder.
use Rattle.std.specs.Prelude.{◌==◌, ◌&&◌, ◌||◌, not, ℕ, Bool, List, [], Option, Some, None}
use Rattle.std.specs.Prelude.{if◌then◌else◌, nat_lt, bit_and, codes, length, take, drop}
use Rattle.std.specs.List.{list_any}
use Rattle.std.specs.Str.{bytes_eq}
use Rattle.save_rules.specs.declared.rules.FileFolder.{FileFolder}
use Rattle.save_rules.specs.declared.rules.Harm.{Harm}
use Rattle.save_rules.specs.declared.rules.Harm.TheVariants.{NoFile, NotWritable, Links, Mounted, Guarded, Owner, Group}
use Rattle.save_rules.specs.declared.rules.Standing.{Standing}
use Rattle.save_rules.specs.declared.rules.User.{User}

abbrev pub is_one_of : ℕ → List ℕ → Bool
is_one_of group groups = list_any (λ other. other == group) groups

-- whether a user is in a group
abbrev pub is_member : User → ℕ → Bool
is_member user group = user.group == group || is_one_of group user.groups.now

-- The permission bits of the rights to write a folder and to search it (300, 30 and 3 in octal). The owner has those of
-- the owner, also where they are fewer; a member of the group has those of the group; all others have the last.
unfoldable pub bits_needed : FileFolder → User → ℕ
bits_needed folder user =
    if user.id == folder.owner then 192 else (if is_member user folder.group then 24 else 3)

-- whether a user may make files in a folder: permission bits don't bind the user, or they give both rights
unfoldable pub may_make_files : FileFolder → User → Bool
may_make_files folder user =
    user.overrides_modes || bit_and folder.mode (bits_needed folder user) == bits_needed folder user

-- whether the folder's sticky bit keeps a user from renaming a file: neither is theirs, and they don't act for owners
abbrev pub is_guarded : Standing → FileFolder → User → Bool
is_guarded file folder user =
    not (bit_and folder.mode 512 == 0) && not user.acts_for_owners
    && not (user.id == folder.owner) && not (user.id == file.owner)

-- Why a file can't be replaced as it was: it is a folder, a device or a pipe, nobody may write it, it has further
-- names, it lies on another device than its folder, its folder's sticky bit guards it, or another user's new file would
-- have to be given its owner or its group. A user who gives files away can give both, and one who takes files over asks
-- for neither.
unfoldable pub harm_of : Standing → FileFolder → User → Bool → Option Harm
harm_of file folder user takes_over =
    if not file.is_plain then Some NoFile else
    (if bit_and file.mode 146 == 0 then Some NotWritable else
    (if nat_lt 1 file.links then Some Links else
    (if not (file.device == folder.device) then Some Mounted else
    (if is_guarded file folder user then Some Guarded else
    (if takes_over || user.gives_away then None else
    (if not (user.id == file.owner) then Some Owner else
    (if not (is_member user file.group) then Some Group else None)))))))

abbrev pub leads_away : ℕ → Bool
leads_away byte = byte == 47 || byte == 0

-- whether a name is that of a file in the folder: not empty, without a slash or a zero byte, and no point or two alone
unfoldable pub is_in_folder : List ℕ → Bool
is_in_folder name =
    not (bytes_eq name []) && not (bytes_eq name (codes ".")) && not (bytes_eq name (codes ".."))
    && not (list_any leads_away name)

-- whether a file of the other name may stand beside one of the first as its new file: behind that name stands `.new`
unfoldable pub is_beside : List ℕ → List ℕ → Bool
is_beside name other =
    bytes_eq (take (length name) other) name && bytes_eq (take 4 (drop (length name) other)) (codes ".new")
