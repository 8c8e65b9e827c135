-- What a guest's path names, and the rules that it may break.
use Rattle.std.specs.Prelude.{ℕ, ◌-◌, ◌^◌, ◌==◌, ◌&&◌, Bool, true, false, not, List, [], ◌∷◌, take, Option, Some, None}
use Rattle.std.specs.Prelude.{Result, Err, if◌then◌else◌}
use Rattle.std.specs.List.{position}
use Rattle.std.specs.Str.{is_utf8}
use Rattle.fe_base.specs.declared.error_numbers.ErrNo.{ErrNo}
use Rattle.fe_base.specs.declared.error_numbers.ErrNo.TheVariants.{EBADF, EINVAL, ENOENT}
use Rattle.folder_tree.specs.Paths.{Parts, is_absolute, path_of}

-- what stands before a NUL at this place, or all
abbrev pub before_nul : List ℕ → Option ℕ → List ℕ
before_nul bytes None = bytes
before_nul bytes (Some end) = take end bytes

-- the name in a guest's bytes: those before the first NUL, or all
abbrev pub name_of : List ℕ → List ℕ
name_of bytes = before_nul bytes (position (λ byte. byte == 0) bytes)

-- no byte
abbrev pub is_empty : List ℕ → Bool
is_empty [] = true
is_empty (byte ∷ rest) = false

-- the directory number that stands for no directory (Linux, include/uapi/linux/fcntl.h, AT_FDCWD: -100)
abbrev pub current_directory : ℕ
current_directory = 2 ^ 32 - 100

-- what a name leads to, or the first rule that it breaks
abbrev pub named : ℕ → List ℕ → Result Parts ErrNo
named dirfd name =
    if not (is_utf8 name) then Err EINVAL
    else if is_empty name then Err ENOENT
    else if not (is_absolute name) && not (dirfd == current_directory) then Err EBADF
    else path_of name

-- what a guest's bytes lead to, or the first rule that they break
abbrev pub guest_path : ℕ → List ℕ → Result Parts ErrNo
guest_path dirfd bytes = named dirfd (name_of bytes)
