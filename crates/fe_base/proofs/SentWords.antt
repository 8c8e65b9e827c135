-- What a word that is sent does, by how many words its transfer has.
use Rattle.std.proofs.Common.{◌≡◌, ℕ, zero, suc, ◌+◌, ◌-◌, ◌%◌, ◌<◌, ◌==◌, ◌||◌, Bool, true, false, if◌then◌else◌, List}
use Rattle.std.proofs.Common.{[], ◌∷◌, ◌++◌, length, None}
use Rattle.std.proofs.Common.{refl, ap, subst, ◌∙◌, arith}
use Rattle.std.specs.Prelude.{slice_index}
use Rattle.std.proofs.lemmas.Bool.Decides.{nat_tests}
use Rattle.fe_base.specs.Access.{Access, Stored, StoredLow, StoredHigh}
use Rattle.fe_base.specs.MemoryMap.{is_beat}
use Rattle.fe_base.specs.SampleWires.{one_worded, one_stored, data_stored}
use Rattle.fe_base.specs.Transfers.{Transfers, Quiet, Stores, joined, word_place, nothing_owed, goes_on, send_step}
use Rattle.fe_base.specs.Transfers.{data_store}

-- a word of the beginning goes behind the others
pub head_goes_on : (sent : List ℕ) (word : ℕ) → length sent < 4 → (length sent ≡ 0 → word < 2)
    → send_step sent word ≡ goes_on (sent ++ word ∷ [])
head_goes_on [] zero few first = refl
head_goes_on [] (suc zero) few first = refl
head_goes_on [] (suc (suc n)) few first = let small : suc (suc n) < 2 = first refl in absurd (omega (arith, small))
head_goes_on (kind ∷ []) word few first = refl
head_goes_on (kind ∷ low ∷ []) word few first = refl
head_goes_on (kind ∷ low ∷ high ∷ []) word few first = refl
head_goes_on (kind ∷ low ∷ high ∷ little ∷ []) word few first = absurd (omega (arith, few))
head_goes_on (kind ∷ low ∷ high ∷ little ∷ many ∷ before) word few first = absurd (omega (arith, few))

begins-nothing : (word : ℕ) → 1 < word → (word == 0 || word == 1) ≡ false
begins-nothing word big = grind (arith, nat_tests)

-- a first word that begins nothing is dropped
pub first_dropped : (sent : List ℕ) (word : ℕ) → length sent ≡ 0 → 1 < word → send_step sent word ≡ goes_on sent
first_dropped [] word none big =
    let other : (word == 0 || word == 1) ≡ false = begins-nothing word big in
    ap (λ (begins : Bool). if begins then goes_on (word ∷ []) else goes_on []) other
first_dropped (kind ∷ rest) word none big = absurd (omega (arith, none))

-- the words of the beginning
pub ruleset first_words = (head_goes_on, first_dropped)

-- the fifth word ends a read
pub fifth_word : (sent : List ℕ) (word : ℕ) → length sent ≡ 4
    → send_step sent word ≡ (if slice_index sent 0 == 0
    then Quiet None (record {
      sent = [];
      owed = record {
        count = joined (slice_index sent 3) word + 1;
        at = word_place (joined (slice_index sent 1) (slice_index sent 2)) 0;
        high = None;
      };
    })
    else goes_on (sent ++ word ∷ []))
fifth_word [] word four = absurd (omega (arith, four))
fifth_word (kind ∷ []) word four = absurd (omega (arith, four))
fifth_word (kind ∷ low ∷ []) word four = absurd (omega (arith, four))
fifth_word (kind ∷ low ∷ high ∷ []) word four = absurd (omega (arith, four))
fifth_word (kind ∷ low ∷ high ∷ few ∷ []) word four = refl
fifth_word (kind ∷ low ∷ high ∷ few ∷ many ∷ before) word four = absurd (omega (arith, four))

worded-if : (test : Bool) (access : Access) (after : Transfers) (v : ℕ)
    → one_worded (if test then Stores access after else Quiet None after) v
    ≡ ((after, if test then one_stored access v else v), None)
worded-if true access after v = refl
worded-if false access after v = refl

stored-by : (high last whole part : Bool) (access half : Access) (after : Transfers) (v : ℕ)
    → one_worded (if high then (if whole then Stores access after else Quiet None after)
    else (if last then (if part then Stores half after else Quiet None after) else Quiet None after)) v
    ≡ (
      (
        after,
        if high then (if whole then one_stored access v else v)
            else (if last then (if part then one_stored half v else v) else v),
      ),
      None,
    )
stored-by true last true part access half after v = refl
stored-by true last false part access half after v = refl
stored-by false true whole true access half after v = refl
stored-by false true whole false access half after v = refl
stored-by false false whole part access half after v = refl

either-access : (first : Bool) (x y z : Access) → y ≡ z → (if first then x else y) ≡ (if first then x else z)
either-access true x y z same = refl
either-access false x y z same = same

-- the access of a high word, by the last word before it
access-is : (at : ℕ) (before : List ℕ) (low word : ℕ)
    → (0 < length before → slice_index before (length before - 1) ≡ low)
    → (if length before == 0 then StoredHigh (at - 4) word
    else Stored (at - 4) (joined (slice_index before (length before - 1)) word))
    ≡ (if length before == 0 then StoredHigh (at - 4) word else Stored (at - 4) (joined low word))
access-is at [] low word same = refl
access-is at (first ∷ more) low word same =
    either-access (length (first ∷ more) == 0) (StoredHigh (at - 4) word)
    (Stored (at - 4) (joined (slice_index (first ∷ more) (length (first ∷ more) - 1)) word))
    (Stored (at - 4) (joined low word))
    (ap (λ (l : ℕ). Stored (at - 4) (joined l word)) (same (omega arith)))

stored : (at : ℕ) (before : List ℕ) (low word : ℕ) (last : Bool) (after : Transfers) (v : ℕ)
    → (0 < length before → slice_index before (length before - 1) ≡ low)
    → one_worded (data_store at before word last after) v
    ≡ ((after, data_stored at (length before) low word last v), None)
stored at before low word last after v same =
    stored-by (at % 8 == 4) last (is_beat (at - 4)) (is_beat at)
    (if length before == 0 then StoredHigh (at - 4) word
    else Stored (at - 4) (joined (slice_index before (length before - 1)) word)) (StoredLow at word) after v
    ∙ ap (λ (access : Access). (
      (
        after,
        if at % 8 == 4 then (if is_beat (at - 4) then one_stored access v else v)
            else (if last then (if is_beat at then one_stored (StoredLow at word) v else v) else v),
      ),
      None,
    ))
    (access-is at before low word same)

last-of : (a b c d e first : ℕ) (more : List ℕ) → slice_index (first ∷ more) (length (first ∷ more) - 1)
    ≡ slice_index (a ∷ b ∷ c ∷ d ∷ e ∷ first ∷ more) (length (first ∷ more) + 4)
last-of a b c d e first more =
    let one_less : length (first ∷ more) - 1 ≡ length more = omega arith in
    let behind : suc (suc (suc (suc (suc (length more))))) ≡ length (first ∷ more) + 4 = omega arith in
    ap (slice_index (first ∷ more)) one_less ∙ ap (slice_index (a ∷ b ∷ c ∷ d ∷ e ∷ first ∷ more)) behind

last-behind : (a b c d e : ℕ) (before : List ℕ) → 0 < length before
    → slice_index before (length before - 1) ≡ slice_index (a ∷ b ∷ c ∷ d ∷ e ∷ before) (length before + 4)
last-behind a b c d e [] some = absurd (omega (arith, some))
last-behind a b c d e (first ∷ more) some = last-of a b c d e first more

-- a transfer of so many data words and one more, and what is done then
abbrev DataWord : List ℕ → ℕ → ℕ → ℕ → Type 0
DataWord sent word v count =
    one_worded (send_step sent word) v
    ≡ (
      (
        record {
          sent = if count == joined (slice_index sent 3) (slice_index sent 4) then [] else sent ++ word ∷ [];
          owed = nothing_owed;
        },
        data_stored (word_place (joined (slice_index sent 1) (slice_index sent 2)) count) count
            (slice_index sent (count + 4)) word (count == joined (slice_index sent 3) (slice_index sent 4)) v,
      ),
      None,
    )

data-word : (a b c d e : ℕ) (before : List ℕ) (word v : ℕ)
    → DataWord (a ∷ b ∷ c ∷ d ∷ e ∷ before) word v (length before)
data-word a b c d e before word v =
    stored (word_place (joined b c) (length before)) before
    (slice_index (a ∷ b ∷ c ∷ d ∷ e ∷ before) (length before + 4)) word (length before == joined d e)
    (record {
      sent = if length before == joined d e then [] else (a ∷ b ∷ c ∷ d ∷ e ∷ before) ++ word ∷ [];
      owed = nothing_owed;
    }) v (last-behind a b c d e before)

-- a data word is stored, and ends its transfer or goes behind the others
pub data_word : (sent : List ℕ) (word v : ℕ) → 4 < length sent → DataWord sent word v (length sent - 5)
data_word [] word v some = absurd (omega (arith, some))
data_word (a ∷ []) word v some = absurd (omega (arith, some))
data_word (a ∷ b ∷ []) word v some = absurd (omega (arith, some))
data_word (a ∷ b ∷ c ∷ []) word v some = absurd (omega (arith, some))
data_word (a ∷ b ∷ c ∷ d ∷ []) word v some = absurd (omega (arith, some))
data_word (a ∷ b ∷ c ∷ d ∷ e ∷ before) word v some =
    let count : length before ≡ length (a ∷ b ∷ c ∷ d ∷ e ∷ before) - 5 = omega arith in
    subst (DataWord (a ∷ b ∷ c ∷ d ∷ e ∷ before) word v) count (data-word a b c d e before word v)
