-- What a refused openat leaves of a told tree: at most one open more of a file below the root, and that where it was to cut it.
use Rattle.std.proofs.Common.{◌≡◌, ℕ, Bool, true, false, List, Option, Some, refl, sym, ap, ◌∙◌, inl, inr}
use Rattle.std.specs.Prelude.{◌==◌, ◌&&◌, ◌++◌}
use Rattle.std.proofs.lemmas.Bool.{false≢true}
use Rattle.folder_tree.specs.Paths.{Parts}
use Rattle.folder_tree.specs.Tree.{Tree}
use Rattle.host_text.specs.Openings.{AsBefore}
use Rattle.syscall_proxy.specs.CallTable.{service_of}
use Rattle.syscall_proxy.specs.Kept.{Setting}
use Rattle.syscall_proxy.specs.OpenFlags.{cuts}
use Rattle.syscall_proxy.specs.Rows.{low, word}
use Rattle.syscall_proxy.specs.Streams.{MayOpen, call_cuts, cuts_for}
use Rattle.plain_machine.specs.Asks.{request_cuts}
use Rattle.plain_machine.specs.Stands.{TreeStays}
use Rattle.plain_machine.proofs.Numbers.{InNoRow, each-number}

module _ (request : List ℕ) where
  -- the call of a number cuts where that is openat's and the flags say so
  abbrev Cuts : ℕ → Type 0
  Cuts number = cuts_for (service_of number) request ≡ (number == 56 && cuts (low (word request 4)))

  others : (n : ℕ) → InNoRow n → Cuts n
  unfolding service_of
  others n h = rw (h.not_34, h.not_35, h.not_46, h.not_48, h.not_56, h.not_57, h.not_62, h.not_63, h.not_64, h.not_67, h.not_68, h.not_80, h.not_93, h.not_94, h.not_2011) refl

  by-number : (n : ℕ) → Cuts n
  unfolding service_of
  by-number = each-number Cuts refl refl refl refl refl refl refl refl refl refl refl refl refl refl refl others

  -- the call of the request cuts
  cuts-same : call_cuts request ≡ request_cuts request
  cuts-same = by-number (word request 0)

stays : (b : Bool) (root : Parts) (t now : Tree) (told : Option Tree) {may : Parts → Type 0} → ((path : Parts) → may path → (b ≡ true) × ((below : Parts) × (path ≡ root ++ below)))
    → told ≡ Some now → AsBefore may t now → TreeStays b root t told
stays true root t now told only here (inl same) = inl (here ∙ ap Some same)
stays false root t now told only here (inl same) = here ∙ ap Some same
stays true root t now told only here (inr o) = inr (o.path, o.number, (only o.path o.such).1, o.stands, here ∙ ap Some o.is)
stays false root t now told only here (inr o) = absurd (false≢true (only o.path o.such).0)

-- what is told is as before the call, but for that open
pub one-more : (given : Setting) (request : List ℕ) (t now : Tree) (told : Option Tree) → told ≡ Some now → AsBefore (MayOpen given request) t now → TreeStays (request_cuts request) given.root t told
one-more given request t now told here before = stays (request_cuts request) given.root t now told (λ path may. (sym (cuts-same request) ∙ may.0, may.1)) here before
