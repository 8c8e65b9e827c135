-- Transfers of the word link (the TSI protocol of riscv-isa-sim's fesvr): words that are sent and got, and what they do
-- to doublewords. That unmapped words read 0 and are dropped when written, and when a doubleword is touched, is this
-- project's choice.
use Rattle.std.specs.Prelude.{◌≡◌, ◌<◌, ℕ, ◌+◌, ◌-◌, ◌*◌, ◌/◌, ◌%◌, ◌^◌, ◌==◌, ◌||◌, Bool, if◌then◌else◌, List, [], ◌∷◌}
use Rattle.std.specs.Prelude.{◌++◌, length, slice_index, ⊤, Option, Some, None}
use Rattle.fe_base.specs.Access.{Access, Loaded, Stored, StoredLow, StoredHigh}
use Rattle.fe_base.specs.MemoryMap.{is_beat}

-- what is asked of a wire that moves words
pub data WordAsk : Type 0 where
  SendWord : (word : ℕ) → WordAsk
  GetWord : WordAsk

-- a word has 32 bits
abbrev pub IsWordAsk : WordAsk → Type 0
IsWordAsk (SendWord word) = word < 2 ^ 32
IsWordAsk GetWord = ⊤

-- words that are owed to the host: how many, from which address on, and the high word of a doubleword that was loaded
-- for its low one
pub record Owed : Type 0 where
  pub count : ℕ
  pub at : ℕ
  pub high : Option ℕ

-- the words of a transfer that is being sent, and the words that are owed
pub record Transfers : Type 0 where
  pub sent : List ℕ
  pub owed : Owed

-- no word is owed
abbrev pub nothing_owed : Owed
nothing_owed = record { count = 0; at = 0; high = None }

-- no transfer is under way, and no word is owed
abbrev pub no_transfers : Transfers
no_transfers = record { sent = []; owed = nothing_owed }

-- what a word does: nothing to memory; a load of a doubleword, on whose value reply and transfers depend; or a store
pub data WordStep : Type 0 where
  Quiet : (reply : Option ℕ) (after : Transfers) → WordStep
  Loads : (at : ℕ) (reply : ℕ → ℕ) (after : ℕ → Transfers) → WordStep
  Stores : (access : Access) (after : Transfers) → WordStep

-- the number of two words
abbrev pub joined : ℕ → ℕ → ℕ
joined low high = low + high * 2 ^ 32

-- the address of a transfer's word; the low two bits of the transfer's address count for nothing, and addresses go on
-- modulo 2 ^ 64
abbrev pub word_place : ℕ → ℕ → ℕ
word_place at index = (at - at % 4 + 4 * index) % 2 ^ 64

-- the address of the doubleword that holds an address
abbrev pub doubleword_of : ℕ → ℕ
doubleword_of at = at - at % 8

-- ---- a word that is got
-- what is owed behind its first word
abbrev pub owed_behind : Owed → Option ℕ → Owed
owed_behind owed high =
    if owed.count == 1 then nothing_owed else record { count = owed.count - 1; at = word_place owed.at 1; high = high }

abbrev pub transfers_behind : Transfers → Option ℕ → Transfers
transfers_behind t high = record t { owed = owed_behind t.owed high }

-- the word of a doubleword at an address in it, and its high word where that is the next one
abbrev pub word_of : ℕ → ℕ → ℕ
word_of at value = if at % 8 == 0 then value % 2 ^ 32 else value / 2 ^ 32

abbrev pub high_of : ℕ → ℕ → Option ℕ
high_of at value = if at % 8 == 0 then Some (value / 2 ^ 32) else None

-- a word that is got, where some are owed: the high word of a doubleword that was loaded, or a doubleword is loaded for
-- it
abbrev pub owed_step : Transfers → Option ℕ → WordStep
owed_step t (Some word) = Quiet (Some word) (transfers_behind t None)
owed_step t None =
    if is_beat (doubleword_of t.owed.at)
    then Loads (doubleword_of t.owed.at) (word_of t.owed.at) (λ value. transfers_behind t (high_of t.owed.at value))
    else Quiet (Some 0) (transfers_behind t None)

-- a word that is got: none where none is owed
abbrev pub get_step : Transfers → WordStep
get_step t = if t.owed.count == 0 then Quiet None t else owed_step t t.owed.high

-- ---- a word that is sent
-- a store, where its doubleword is mapped
abbrev pub stored_if : ℕ → Access → Transfers → WordStep
stored_if at access after = if is_beat at then Stores access after else Quiet None after

-- the store that a data word makes: of the whole doubleword where it is the high word behind the low one; of the high
-- word alone where the transfer begins there; of the low word alone where the transfer ends there; else it waits for
-- the high word
abbrev pub data_store : ℕ → List ℕ → ℕ → Bool → Transfers → WordStep
data_store at before word last after =
    if at % 8 == 4
    then stored_if (at - 4)
    (if length before == 0 then StoredHigh (at - 4) word
    else Stored (at - 4) (joined (slice_index before (length before - 1)) word)) after
    else (if last then stored_if at (StoredLow at word) after else Quiet None after)

-- a data word of a transfer to an address of so many words and one: it is stored, and ends the transfer where it is the
-- last
abbrev pub data_step : List ℕ → ℕ → ℕ → List ℕ → ℕ → WordStep
data_step sent at more before word =
    data_store (word_place at (length before)) before word (length before == more)
    (record { sent = if length before == more then [] else sent ++ word ∷ []; owed = nothing_owed })

-- the transfer goes on, and nothing is done yet
abbrev pub goes_on : List ℕ → WordStep
goes_on sent = Quiet None (record { sent = sent; owed = nothing_owed })

-- a word sent where no word is owed: 0 begins a read and 1 a write, then the address and the number of words less one
-- come, each low word first, and then the words of a write
abbrev pub send_step : List ℕ → ℕ → WordStep
send_step [] word = if word == 0 || word == 1 then goes_on (word ∷ []) else goes_on []
send_step (kind ∷ []) word = goes_on (kind ∷ word ∷ [])
send_step (kind ∷ low ∷ []) word = goes_on (kind ∷ low ∷ word ∷ [])
send_step (kind ∷ low ∷ high ∷ []) word = goes_on (kind ∷ low ∷ high ∷ word ∷ [])
send_step (kind ∷ low ∷ high ∷ few ∷ []) word =
    if kind == 0
    then Quiet None (record {
      sent = [];
      owed = record {
        count = joined few word + 1;
        at = word_place (joined low high) 0;
        high = None;
      };
    })
    else goes_on (kind ∷ low ∷ high ∷ few ∷ word ∷ [])
send_step (kind ∷ low ∷ high ∷ few ∷ many ∷ before) word =
    data_step (kind ∷ low ∷ high ∷ few ∷ many ∷ before) (joined low high) (joined few many) before word

-- what a word does; one that is sent while words are owed is dropped
unfoldable pub word_step : Transfers → WordAsk → WordStep
word_step t (SendWord word) = if t.owed.count == 0 then send_step t.sent word else Quiet None t
word_step t GetWord = get_step t

-- ---- a turn
-- a word's step was done between two views, with this reply and these transfers left
abbrev pub WordDone : {V : Type 0} → (V → Access → V → Type 0) → WordStep → V → Option ℕ → Transfers → V → Type 0
WordDone touched (Quiet reply after) between got left seen = (got ≡ reply) × (left ≡ after) × (seen ≡ between)
WordDone touched (Loads at reply after) between got left seen =
    (value : ℕ) × (value < 2 ^ 64) × touched between (Loaded at value) seen × (got ≡ Some (reply value))
    × (left ≡ after value)
WordDone touched (Stores access after) between got left seen = (got ≡ None) × (left ≡ after)
    × touched between access seen

-- a turn of a word: some hart steps, at least one where every pause is positive, and then what the word does
pub record WordTurned {S V : Type 0} (valid positive : S → Type 0) (view : S → V) (transfers : S → Transfers)
    (ran : V → ℕ → V → Type 0) (touched : V → Access → V → Type 0) (before : S) (ask : WordAsk) (reply : Option ℕ)
    (after : S) : Type 0 where
  pub steps : ℕ
  pub between : V
  pub pause : ran (view before) steps between
  pub done : WordDone touched (word_step (transfers before) ask) between reply (transfers after) (view after)
  pub still_valid : valid after
  pub some_step : positive before → 0 < steps
  pub still_positive : positive before → positive after

-- what a wire's `next` and `lost` owe: each is a turn of what was asked
abbrev pub WordLaw : {S V : Type 0} → (S → Type 0) → (S → Type 0) → (S → V) → (S → Transfers) → (V → ℕ → V → Type 0) →
    (V → Access → V → Type 0) → (S → WordAsk → S × Option ℕ) → Type 0
WordLaw {S} valid positive view transfers ran touched act =
    (s : S) (ask : WordAsk) → valid s → IsWordAsk ask →
    WordTurned valid positive view transfers ran touched s ask (act s ask).1 (act s ask).0
