-- Before the program's first step the place is 0, and the contents there are the first ones.
use Rattle.std.proofs.Common.{◌≡◌, ◌+◌, ◌==◌, ◌-◌, ℕ, Bool, true, false, List, refl, sym, ap, subst, ◌∙◌, arith}
use Rattle.std.specs.Prelude.{if◌then◌else◌, Some}
use Rattle.folder_tree.specs.Tree.{files_of}
use Rattle.host_text.specs.World.{Contents, World}
use Rattle.kernel_sim.specs.declared.phase.Phase.{Phase}
use Rattle.kernel_sim.specs.declared.phase.PhaseKind.{PhaseKind}
use Rattle.kernel_sim.specs.declared.phase.PhaseKind.TheVariants.{Boot, BootWait, BootTake, Leave, User, Save, Check}
use Rattle.kernel_sim.specs.declared.phase.PhaseKind.TheVariants.{Scan, Fill, Wait, Take, Local, Restore, Speak}
use Rattle.kernel_sim.specs.declared.phase.PhaseKind.TheVariants.{Closing}
use Rattle.plain_machine.specs.Direct.{DirectState, direct_after, direct_after-zero}
use Rattle.plain_machine.specs.Stands.{Leaves}
use Rattle.plain_machine.specs.Starts.{Configuration, direct_start, setting_of}
use Rattle.rv_csr.specs.declared.privilege.Mode.TheVariants as mode
use Rattle.rv_hart.specs.HartStep.{HartState, System}
use Rattle.syscall_proxy.specs.Kept.{Kept}
use Rattle.tether_base.specs.Place.{Agrees, Book, in_call, noted_by, noted_in, place, place_by}
use Rattle.tether_base.specs.Serving.{Here, TellsAll}
use Rattle.tether_boot.specs.Booting.{BehindBoot, BootAgrees, BootIsUnbegun, IsBooting, IsUnbegun, StartsUp}
use Rattle.tether_boot.specs.Booting.{boots, asks, takes, leaves}

module _ (c : Configuration) (w : World) (book : Book) (ws : List ℕ) (p : Phase) (sys : System) where
  unbegun-by : (k : PhaseKind) → StartsUp k → BehindBoot c w book ws k p sys → IsBooting c w book sys
  unbegun-by Boot boots b = b.1
  unbegun-by BootWait asks b = b.0.booting
  unbegun-by BootTake takes b = b.set_up.booting
  unbegun-by Leave leaves b = b.set_up.booting
  unbegun-by User starts b = elim starts [ ]
  unbegun-by Save starts b = elim starts [ ]
  unbegun-by Check starts b = elim starts [ ]
  unbegun-by Scan starts b = elim starts [ ]
  unbegun-by Fill starts b = elim starts [ ]
  unbegun-by Wait starts b = elim starts [ ]
  unbegun-by Take starts b = elim starts [ ]
  unbegun-by Local starts b = elim starts [ ]
  unbegun-by Restore starts b = elim starts [ ]
  unbegun-by Speak starts b = elim starts [ ]
  unbegun-by Closing starts b = elim starts [ ]

pub boot_is_unbegun : BootIsUnbegun
boot_is_unbegun c w book ws p sys starts b = unbegun-by c w book ws p sys p.kind starts b

-- nothing is noted of it
noted-at : (acted call : Bool) (book : Book) → book.acted_at ≡ 0 → noted_by acted call 0 book ≡ book
noted-at false call book none = refl
noted-at true true book none = ap (λ (n : ℕ). record book { acted_at = n }) (sym none)
noted-at true false book none = refl

noted-none : (acted : Bool) (hart : HartState) (book : Book) → IsUnbegun book hart → noted_in acted hart book ≡ book
noted-none acted hart book u =
    ap (λ (n : ℕ). noted_by acted (in_call hart.mode hart.csrs.mcause) n book) u.no_steps
    ∙ noted-at acted (in_call hart.mode hart.csrs.mcause) book u.noted

place-at : (call : Bool) (book : Book) → book.acted_at ≡ 0 → book.said ≡ 0 → place_by call 0 book ≡ 0
place-at true book acted said =
    ap (λ (n : ℕ). (if n == 0 then 0 else 0 - 1) + book.said) acted ∙ (let r : 0 + book.said ≡ 0 = omega arith in r)
place-at false book acted said = let r : 0 + book.said ≡ 0 = omega arith in r

place-zero : (hart : HartState) (book : Book) → IsUnbegun book hart → place hart book ≡ 0
place-zero hart book u =
    ap (λ (n : ℕ). place_by (in_call hart.mode hart.csrs.mcause) n book) u.no_steps
    ∙ place-at (in_call hart.mode hart.csrs.mcause) book u.noted u.silent

module _ (c : Configuration) (book : Book) (s : Here) (u : IsUnbegun book s.port.hart) where
  first-there : (direct_after (setting_of c) (place s.port.hart book) (direct_start c)).world.contents ≡ c.contents
  first-there =
      ap (λ (n : ℕ). (direct_after (setting_of c) n (direct_start c)).world.contents) (place-zero s.port.hart book u)
      ∙ ap (λ (z : DirectState). z.world.contents) (direct_after-zero (setting_of c) (direct_start c))

  first-leaves : (k : Kept) → TellsAll c.contents k s
      → Leaves c.contents (Some s.input) (Some s.console) (Some s.folder)
  first-leaves k told = record {
    input_told = ap (λ (l : List ℕ). Some l) told.input_is;
    console_told = ap (λ (l : List ℕ). Some l) told.console_is;
    files_told = (s.folder, refl, ap files_of told.tree_is);
  }

  unbegun-agrees : (k : Kept) → TellsAll c.contents k s
      → Agrees (setting_of c) (direct_start c) s.port book (Some s.input) (Some s.console) (Some s.folder)
  unbegun-agrees k told = record {
    contents = subst (λ (z : Contents). Leaves z (Some s.input) (Some s.console) (Some s.folder)) (sym first-there)
        (first-leaves k told);
    user = λ unhalted in_user. let no : mode.Machine ≡ mode.User = sym u.in_machine ∙ in_user in let bad : ⊥ = cc in
        absurd bad;
  }

pub boot_agrees : BootAgrees
boot_agrees c w book acted k s first u told =
    let told_first : TellsAll c.contents k s = subst (λ (z : World). TellsAll z.contents k s) first told in (
      noted-none acted s.port.hart book u,
      place-zero s.port.hart book u,
      unbegun-agrees c book s u k told_first,
    )
