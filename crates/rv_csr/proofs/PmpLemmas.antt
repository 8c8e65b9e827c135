-- What covers a range of some bytes meets it.
use Rattle.std.proofs.Common.{◌≡◌, ℕ, zero, suc, ◌+◌, ◌^◌, ◌<◌, ◌≤◌, ◌&&◌, nat_le, refl, not, Bool, true, false, sym, ◌∙◌, arith}
use Rattle.std.proofs.lemmas.Bool.Decides.{nat_tests}
use Rattle.std.proofs.lemmas.Bool.{false≢true, true_from_ne_false}
use Rattle.fe_base.specs.ByteRanges.{every_byte, some_byte, is_between}
use Rattle.fe_base.specs.MemoryMap.{user_start, user_end, is_within}
use Rattle.fe_base.proofs.RangeLemmas.{every-some, every-between}
use Rattle.rv_csr.specs.Pmp.{PmpState, IsEntry, decision, has_right, pmp_allows}
use Rattle.rv_csr.specs.OpenArea.{opens_user_area}
use Rattle.rv_csr.specs.declared.privilege.Access.{Access}

pub meets-covered : (test : ℕ → Bool) (at width : ℕ) → 0 < width → every_byte test at width ≡ true → some_byte test at width ≡ true
meets-covered test at zero some covered = absurd (omega arith)
meets-covered test at (suc width) some covered =
    true_from_ne_false (some_byte test at (suc width)) (λ none. false≢true (sym (every-some test at width none) ∙ covered))

-- the second entry's range, where it decides alone
whole : (first end at width : ℕ) → 0 < width → at < 2 ^ 64 → end < 2 ^ 56 → first ≤ at → at + width ≤ end → every_byte (is_between first end) at width ≡ true
whole first end at width some low small below above = every-between first end at width some (omega arith) ∙ inside first end at width below above
  where
    inside : (first end at width : ℕ) → first ≤ at → at + width ≤ end → (nat_le first at && nat_le (at + width) end) ≡ true
    inside first end at width below above = grind (arith, nat_tests)

module _ (pmp : PmpState) (access : Access) (at width : ℕ) (some : 0 < width) (small : pmp.entry1.end < 2 ^ 56) where
  open-by : (tor0 tor1 right : Bool) → pmp.entry0.tor ≡ tor0 → pmp.entry1.tor ≡ tor1 → has_right pmp.entry1 access ≡ right
      → (is_within user_start user_end at width && (not tor0 && (tor1 && (right && (nat_le pmp.entry0.end user_start && nat_le user_end pmp.entry1.end))))) ≡ true
      → pmp_allows pmp access at width ≡ true
  unfolding decision
  open-by false true true off on has inside =
      let low : at < 2 ^ 64 = grind (arith, nat_tests) in
      let first : pmp.entry0.end ≤ at = grind (arith, nat_tests) in
      let end : at + width ≤ pmp.entry1.end = grind (arith, nat_tests) in
      let all : every_byte (is_between pmp.entry0.end pmp.entry1.end) at width ≡ true = whole pmp.entry0.end pmp.entry1.end at width some low small first end in
      rw (off, on, meets-covered (is_between pmp.entry0.end pmp.entry1.end) at width some all, all, has) refl
  open-by true tor1 right off on has inside = grind (arith, nat_tests)
  open-by false false right off on has inside = grind (arith, nat_tests)
  open-by false true false off on has inside = grind (arith, nat_tests)

-- user mode may make an access of the user area where that is open
pub open-allows : (pmp : PmpState) (access : Access) (at width : ℕ) → 0 < width → IsEntry pmp.entry1
    → is_within user_start user_end at width ≡ true → opens_user_area pmp.entry0 pmp.entry1 access ≡ true → pmp_allows pmp access at width ≡ true
open-allows pmp access at width some entry inside opened =
    open-by pmp access at width some entry.end_fits pmp.entry0.tor pmp.entry1.tor (has_right pmp.entry1 access) refl refl refl (rw (inside, opened) refl)

pub ruleset open_lemmas = (open-allows, nat_tests)

pub ruleset decisions = (meets-covered, nat_tests)
