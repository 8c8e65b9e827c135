-- The words of the command line: which are a command, and where and how all others fail first.
use Rattle.std.specs.Prelude.{ℕ, ⊤, ◌+◌, ◌<◌, ◌==◌, ◌&&◌, ◌||◌, not, nat_lt, nat_le, if◌then◌else◌, Bool, false, List}
use Rattle.std.specs.Prelude.{[], ◌∷◌, length, codes, bytes_eq, Option, Some, None, IfSome, unwrap_or, ok_or, Result}
use Rattle.std.specs.Prelude.{Ok, Err}
use Rattle.std.specs.Str.{all_ascii_digits}
use Rattle.std.specs.Str.Parse.{digits_value}
use Rattle.fe_base.specs.Limits.{default_step_limit, greatest_step_limit}
use Rattle.spike_front.specs.declared.words.Command.{Command}
use Rattle.spike_front.specs.declared.words.Command.TheVariants.{Plain, Kernel, Asm}
use Rattle.spike_front.specs.declared.words.PlainOptions.{PlainOptions}
use Rattle.spike_front.specs.declared.words.UsageKind.{UsageKind}
use Rattle.spike_front.specs.declared.words.UsageKind.TheVariants.{NoCommand, UnknownCommand, UnknownOption}
use Rattle.spike_front.specs.declared.words.UsageKind.TheVariants.{OptionRepeated, ValueMissing, BadNumber, FileMissing}
use Rattle.spike_front.specs.declared.words.UsageKind.TheVariants.{WordTooMany}
use Rattle.spike_front.specs.declared.words.WordFault.{WordFault}
use Rattle.spike_front.specs.declared.words.WordFault.TheVariants.{Usage, NotBuilt}

-- the number by which a failure is told
abbrev pub usage_number : UsageKind → ℕ
usage_number NoCommand = 1
usage_number UnknownCommand = 2
usage_number UnknownOption = 3
usage_number OptionRepeated = 4
usage_number ValueMissing = 5
usage_number BadNumber = 6
usage_number FileMissing = 9
usage_number WordTooMany = 10

-- a name of a command that is not built
abbrev pub is_unbuilt_name : List ℕ → Bool
is_unbuilt_name name = bytes_eq name (codes "run") || bytes_eq name (codes "demo")

-- a word that is an option, or that ends the options: two or more bytes, the first of them a dash
abbrev pub is_option : List ℕ → Bool
is_option [] = false
is_option (byte ∷ bytes) = byte == 45 && nat_lt 0 (length bytes)

-- 1 to 20 decimal digits
abbrev pub is_numeral : List ℕ → Bool
is_numeral word = nat_lt 0 (length word) && nat_le (length word) 20 && all_ascii_digits word

-- the number that a word writes, where it is between these two
abbrev pub number_within : ℕ → ℕ → List ℕ → Option ℕ
number_within least most word =
    if is_numeral word && nat_le least (digits_value 10 word) && nat_le (digits_value 10 word) most
    then Some (digits_value 10 word) else None

-- the limit that the first of these words gives; it stands at a place, or is missing there
abbrev pub limit_value : ℕ → List (List ℕ) → Result ℕ WordFault
limit_value place [] = Err (Usage ValueMissing place)
limit_value place (value ∷ words) = ok_or (number_within 1 greatest_step_limit value) (Usage BadNumber place)

-- the first of these words is a value whatever it is; it stands at a place, or is missing there
abbrev pub any_value : ℕ → List (List ℕ) → Result ℕ WordFault
any_value place [] = Err (Usage ValueMissing place)
any_value place (value ∷ words) = Ok place

-- the option at a place was not given before
abbrev pub first_time : {A : Type 0} → Option A → ℕ → Result ℕ WordFault → Result ℕ WordFault
first_time None place value = value
first_time (Some before) place value = Err (Usage OptionRepeated place)

-- the options of `plain` with a limit
abbrev pub with_limit : PlainOptions → Result ℕ WordFault → Result PlainOptions WordFault
with_limit options (Ok value) = Ok (record options { limit = Some value })
with_limit options (Err fault) = Err fault

-- and with the place of DIR
abbrev pub with_folder : PlainOptions → Result ℕ WordFault → Result PlainOptions WordFault
with_folder options (Ok place) = Ok (record options { folder = Some place })
with_folder options (Err fault) = Err fault

-- the options of `plain` with the one at a place, whose value is the first of the words behind it
abbrev pub read_option : PlainOptions → ℕ → List ℕ → List (List ℕ) → Result PlainOptions WordFault
read_option options place word words =
    if bytes_eq word (codes "--steps")
    then with_limit options (first_time options.limit place (limit_value (place + 1) words))
    else if bytes_eq word (codes "--folder")
    then with_folder options (first_time options.folder place (any_value (place + 1) words))
    else Err (Usage UnknownOption place)

-- `plain` with the first of these words, which stands at a place, as FILE
abbrev pub plain_file : PlainOptions → ℕ → List (List ℕ) → Result Command WordFault
plain_file options place [] = Err (Usage FileMissing place)
plain_file options place (file ∷ words) =
    Ok (Plain (unwrap_or options.limit default_step_limit) options.folder place)

-- what is read behind an option, or the failure of that option
abbrev pub behind_option : Result PlainOptions WordFault → (PlainOptions → Result Command WordFault)
    → Result Command WordFault
behind_option (Ok options) behind = behind options
behind_option (Err fault) behind = Err fault

-- `plain` with these words, the first of which stands at a place: options with their values, `--` if the next word
-- begins with a dash, and FILE
abbrev pub plain_words : PlainOptions → ℕ → List (List ℕ) → Result Command WordFault
plain_words options place [] = plain_file options place []
plain_words options place (word ∷ []) =
    if not (is_option word) then plain_file options place (word ∷ [])
    else if bytes_eq word (codes "--") then plain_file options (place + 1) []
    else behind_option (read_option options place word []) (λ more. plain_file more (place + 2) [])
plain_words options place (word ∷ next ∷ words) =
    if not (is_option word) then plain_file options place (word ∷ next ∷ words)
    else if bytes_eq word (codes "--") then plain_file options (place + 1) (next ∷ words)
    else behind_option (read_option options place word (next ∷ words)) (λ more. plain_words more (place + 2) words)

-- `plain` before its first option
abbrev pub no_options : PlainOptions
no_options = record { limit = None; folder = None }

-- where the words behind the options begin, of a command that has none: behind `--`, if that comes first
abbrev pub behind_options : List (List ℕ) → Result ℕ WordFault
behind_options [] = Ok 1
behind_options (word ∷ words) =
    if not (is_option word) then Ok 1
    else if bytes_eq word (codes "--") then Ok 2
    else Err (Usage UnknownOption 1)

-- `kernel`, of so many words, where its own begin at a place: there are none
abbrev pub kernel_words : ℕ → Result ℕ WordFault → Result Command WordFault
kernel_words count (Ok place) = if nat_le count place then Ok Kernel else Err (Usage WordTooMany place)
kernel_words count (Err fault) = Err fault

-- `asm`, of so many words, where its own begin at a place: FILE alone
abbrev pub asm_words : ℕ → Result ℕ WordFault → Result Command WordFault
asm_words count (Ok place) =
    if nat_le count place then Err (Usage FileMissing place)
    else if nat_le count (place + 1) then Ok (Asm place)
    else Err (Usage WordTooMany (place + 1))
asm_words count (Err fault) = Err fault

-- the command that the words are, or their first failure from the left
abbrev pub command_of : List (List ℕ) → Result Command WordFault
command_of [] = Err (Usage NoCommand 0)
command_of (name ∷ words) =
    if bytes_eq name (codes "plain") then plain_words no_options 1 words
    else if bytes_eq name (codes "kernel") then kernel_words (length words + 1) (behind_options words)
    else if bytes_eq name (codes "asm") then asm_words (length words + 1) (behind_options words)
    else if is_unbuilt_name name then Err NotBuilt
    else Err (Usage UnknownCommand 0)

-- options of so many words: a limit allows some step, and DIR is one of the words
pub record AreSound (count : ℕ) (options : PlainOptions) : Type 0 where
  pub some : IfSome options.limit (λ limit. 0 < limit)
  pub within : IfSome options.folder (λ place. place < count)

-- some steps may be made, and FILE and DIR are of so many words
abbrev pub IsSound : ℕ → Command → Type 0
IsSound count (Plain limit folder file) = (0 < limit) × IfSome folder (λ place. place < count) × (file < count)
IsSound count Kernel = ⊤
IsSound count (Asm file) = file < count

-- what a command counts before its first step: a run its steps, the others nothing
abbrev pub first_count : Result Command WordFault → Option ℕ
first_count (Ok (Plain limit folder file)) = Some 0
first_count (Ok Kernel) = None
first_count (Ok (Asm file)) = None
first_count (Err fault) = None
