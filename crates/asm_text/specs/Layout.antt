-- Parts of a text, by the bytes at which it is cut.
use Rattle.asm_text.specs.declared.layout.At.{At}
use Rattle.asm_text.specs.declared.layout.At.TheVariants.{Outside, Inside, Escaped}
use Rattle.std.specs.Prelude.{ℕ, ◌-◌, length, take, get_or, Bool, false, ◌==◌, ◌&&◌, ◌||◌, nat_lt, if◌then◌else◌, List}
use Rattle.std.specs.Prelude.{[], ◌∷◌}

-- the lines of a text, which end with a newline each; the last may lack it
abbrev pub on_first_line : ℕ → List (List ℕ) → List (List ℕ)
on_first_line byte [] = (byte ∷ []) ∷ []
on_first_line byte (line ∷ lines) = (byte ∷ line) ∷ lines

abbrev pub lines_of : List ℕ → List (List ℕ)
lines_of [] = [] ∷ []
lines_of (byte ∷ bytes) = if byte == 10 then [] ∷ lines_of bytes else on_first_line byte (lines_of bytes)

-- a quote begins and ends a string; inside it a backslash keeps the next byte
abbrev pub next_quote : At → ℕ → At
next_quote Outside byte = if byte == 34 then Inside else Outside
next_quote Inside byte = if byte == 34 then Outside else (if byte == 92 then Escaped else Inside)
next_quote Escaped byte = Inside

-- a # outside a string begins a comment
abbrev pub begins_comment : At → ℕ → Bool
begins_comment Outside byte = byte == 35
begins_comment Inside byte = false
begins_comment Escaped byte = false

abbrev pub without_comment : At → List ℕ → List ℕ
without_comment quote [] = []
without_comment quote (byte ∷ bytes) =
    if begins_comment quote byte then [] else byte ∷ without_comment (next_quote quote byte) bytes

-- a space or a tab
abbrev pub is_blank : ℕ → Bool
is_blank byte = byte == 32 || byte == 9

-- what a text is from its first byte on that fails a test
abbrev pub drop_while : (ℕ → Bool) → List ℕ → List ℕ
drop_while test [] = []
drop_while test (byte ∷ bytes) = if test byte then drop_while test bytes else byte ∷ bytes

-- a byte before a text, left out where it is blank and nothing follows
abbrev pub before_rest : ℕ → List ℕ → List ℕ
before_rest byte [] = if is_blank byte then [] else byte ∷ []
before_rest byte (next ∷ bytes) = byte ∷ next ∷ bytes

-- a text without the blanks at its end
abbrev pub without_end : List ℕ → List ℕ
without_end [] = []
without_end (byte ∷ bytes) = before_rest byte (without_end bytes)

-- a line without its comment and without the blanks at both ends
unfoldable pub bare : List ℕ → List ℕ
bare line = without_end (drop_while is_blank (without_comment Outside line))

-- the last byte of a text has this value
abbrev pub ends_with : ℕ → List ℕ → Bool
ends_with value bytes = nat_lt 0 (length bytes) && get_or bytes (length bytes - 1) 0 == value

-- a text without its last byte
abbrev pub without_last : List ℕ → List ℕ
without_last bytes = take (length bytes - 1) bytes
