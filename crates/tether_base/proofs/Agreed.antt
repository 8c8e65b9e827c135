-- Whatever a call comes to while the kernel waits, the session agrees with the direct run at its place.
use Rattle.std.proofs.Common.{◌≡◌, ◌≤◌, ◌+◌, ◌-◌, ◌==◌, ℕ, Bool, true, false, List, refl, sym, ap, subst, ◌∙◌, arith}
use Rattle.std.proofs.Common.{inl, inr}
use Rattle.std.specs.Prelude.{if◌then◌else◌, Some, Result}
use Rattle.std.proofs.lemmas.Bool.{ne_eqb, eq-eqb}
use Rattle.folder_tree.specs.Paths.{Parts}
use Rattle.folder_tree.specs.Tree.{Tree, files_of}
use Rattle.host_text.specs.Openings.{AsBefore}
use Rattle.host_text.specs.Runs.{Place, End}
use Rattle.host_text.specs.World.{Contents, World}
use Rattle.htif_mailbox.specs.declared.answers.MailFault.{MailFault}
use Rattle.htif_mailbox.specs.declared.answers.Turned.{Turned}
use Rattle.kernel_sim.specs.Rows.{Row, mode_of}
use Rattle.kernel_sim.specs.declared.phase.PhaseKind.{PhaseKind}
use Rattle.plain_machine.specs.Direct.{DirectState, after_answer, direct_after}
use Rattle.plain_machine.specs.Programs.{Process}
use Rattle.plain_machine.specs.Stands.{Leaves}
use Rattle.rv_csr.specs.declared.privilege.Mode.{Mode}
use Rattle.rv_csr.specs.declared.privilege.Mode.TheVariants as mode
use Rattle.rv_hart.specs.HartStep.{System}
use Rattle.syscall_proxy.specs.Kept.{Kept, Setting}
use Rattle.syscall_proxy.specs.Streams.{MayOpen}
use Rattle.syscall_proxy.specs.declared.answers.CallAnswer.{CallAnswer}
use Rattle.syscall_proxy.specs.declared.answers.CallAnswer.TheVariants.{Result as Value, Exit}
use Rattle.tether_base.specs.Place.{Agrees, Book, in_call, noted_by, noted_in, place, place_by}
use Rattle.tether_base.specs.Serving.{Here, TellsAll, LeftWaiting, Pending, Stepped, Outcome, carried_out}
use Rattle.tether_base.specs.Serving.{has_exited, refused_before, refused_behind, CallsAgree}
use Rattle.tether_base.specs.Waiting.{CallState, Waiting, process_of}

-- ---- the place in a call
module _ (c : CallState) (user : List ℕ) (sys : System) (wait : Waiting c user sys) (book : Book) where
  in-machine : sys.hart.mode ≡ mode.Machine
  in-machine = wait.holds.every.mode_is ∙ ap mode_of wait.kind

  by-call : sys.hart.csrs.mcause ≡ 8
  by-call = (subst (λ (k : PhaseKind). Row k wait.phase sys) wait.kind wait.holds.row).0.call

  call-there : in_call sys.hart.mode sys.hart.csrs.mcause ≡ true
  call-there = ap (λ (m : Mode). in_call m sys.hart.csrs.mcause) in-machine
      ∙ ap (λ (n : ℕ). in_call mode.Machine n) by-call

  place-is : (k : Book) → place sys.hart k ≡ place_by true c.steps k
  place-is k = ap (λ (t : Bool). place_by t sys.hart.user_steps k) call-there
      ∙ ap (λ (n : ℕ). place_by true n k) wait.steps_are

  -- of a call that has not acted
  place-before : (before : ℕ) → c.steps ≡ before + 1 → book.acted_at ≤ before → book.said ≡ 0
      → place sys.hart (noted_in false sys.hart book) ≡ before
  place-before before counted noted said =
      let other : (book.acted_at == c.steps) ≡ false = ne_eqb book.acted_at c.steps (λ e. omega arith) in
      place-is book ∙ ap (λ (t : Bool). (if t then c.steps else c.steps - 1) + book.said) other
      ∙ (let r : c.steps - 1 + book.said ≡ before = omega arith in r)

  noted-is : noted_in true sys.hart book ≡ record book { acted_at = c.steps }
  noted-is = ap (λ (t : Bool). noted_by true t sys.hart.user_steps book) call-there
      ∙ ap (λ (n : ℕ). record book { acted_at = n }) wait.steps_are

  -- of one that has
  place-after : book.said ≡ 0 → place sys.hart (noted_in true sys.hart book) ≡ c.steps
  place-after said =
      let same : (c.steps == c.steps) ≡ true = eq-eqb c.steps c.steps refl in
      ap (λ (k : Book). place sys.hart k) noted-is ∙ place-is (record book { acted_at = c.steps })
      ∙ ap (λ (t : Bool). (if t then c.steps else c.steps - 1) + book.said) same
      ∙ (let r : c.steps + book.said ≡ c.steps = omega arith in r)

  not-user : {P : Type 0} → sys.hart.mode ≡ mode.User → P
  not-user e = let no : mode.Machine ≡ mode.User = sym in-machine ∙ e in let bad : ⊥ = cc in absurd bad

-- ---- what is told
tells-leaves : (contents there : Contents) (k : Kept) (s : Here) → TellsAll contents k s → contents.input ≡ there.input
    → contents.console ≡ there.console → files_of contents.tree ≡ files_of there.tree
    → Leaves there (Some s.input) (Some s.console) (Some s.folder)
tells-leaves contents there k s told input console files = record {
  input_told = ap (λ (l : List ℕ). Some l) (told.input_is ∙ input);
  console_told = ap (λ (l : List ℕ). Some l) (told.console_is ∙ console);
  files_told = (s.folder, refl, ap files_of told.tree_is ∙ files);
}

answer-contents : (process : Process) (a : CallAnswer) (p : Place (List ℕ) Kept)
    → (after_answer process a p).world.contents ≡ p.contents
answer-contents process (Value value) p = refl
answer-contents process (Exit status) p = refl

-- the same files; how often each is open is no part of them
abbrev SameFiles : Tree → Tree → Type 0
SameFiles t now = files_of now ≡ files_of t

-- one open more changes no file
same-files : (may : Parts → Type 0) (t now : Tree) → AsBefore may t now → SameFiles t now
same-files may t now before = elim before [
  | inl same ↦ ap (λ (z : Tree). files_of z) same
  | inr more ↦ ap (λ (z : Tree). files_of z) more.is
]

module _ (given : Setting) (start : DirectState) (c : CallState) (user : List ℕ) (w : World)
    (pending : Pending given start c user w) (book : Book)
    (noted : book.acted_at ≤ pending.before) (said : book.said ≡ 0) where
  abbrev AgreesBy : Bool → Here → Type 0
  AgreesBy b s = Agrees given start s.port (noted_in b s.port.hart book) (Some s.input) (Some s.console) (Some s.folder)

  -- a call that has not acted
  before-agrees : (now : Tree) (k : Kept) (s : Here) → SameFiles w.contents.tree now
      → LeftWaiting c (record w.contents { tree = now }) k s → AgreesBy false s
  before-agrees now k s files left =
      let d = left.call_now in
      let at : place s.port.hart (noted_in false s.port.hart book) ≡ pending.before =
      place-before d left.user_now s.port left.waits book pending.before
      (left.same_steps ∙ pending.counted) noted said in
      let here : (direct_after given (place s.port.hart (noted_in false s.port.hart book)) start).world.contents
      ≡ w.contents =
      ap (λ (n : ℕ). (direct_after given n start).world.contents) at
      ∙ ap (λ (z : DirectState). z.world.contents) pending.stands in
      record {
        contents = subst (λ (z : Contents). Leaves z (Some s.input) (Some s.console) (Some s.folder)) (sym here)
            (tells-leaves (record w.contents { tree = now }) w.contents k s left.tells refl refl files);
        user = λ unhalted in_user. not-user d left.user_now s.port left.waits book in_user;
      }

  -- a call that has
  after-agrees : (end : End (List ℕ) Kept CallAnswer) (d : CallState) (user_now : List ℕ) (k : Kept) (s : Here)
      → Stepped given start c user end → d.steps ≡ c.steps → Waiting d user_now s.port
      → TellsAll end.place.contents k s → AgreesBy true s
  after-agrees end d user_now k s stepped steps wait told =
      let at : place s.port.hart (noted_in true s.port.hart book) ≡ c.steps =
      place-after d user_now s.port wait book said ∙ steps in
      let here : (direct_after given (place s.port.hart (noted_in true s.port.hart book)) start).world.contents
      ≡ end.place.contents =
      ap (λ (n : ℕ). (direct_after given n start).world.contents) at
      ∙ ap (λ (z : DirectState). z.world.contents) stepped.direct
      ∙ answer-contents (process_of c.program user) end.answer end.place in
      record {
        contents = subst (λ (z : Contents). Leaves z (Some s.input) (Some s.console) (Some s.folder)) (sym here)
            (tells-leaves end.place.contents end.place.contents k s told refl refl refl);
        user = λ unhalted in_user. not-user d user_now s.port wait book in_user;
      }

  acted-is : (b : Bool) (k : Kept) (s : Here) → s.kept ≡ k → k.acted ≡ b → AgreesBy b s → AgreesBy s.kept.acted s
  acted-is b k s e f h = subst (λ (z : Bool). AgreesBy z s) (sym (ap (λ (z : Kept). z.acted) e ∙ f)) h

  agrees : (answers : List ℕ) (r : Result Turned MailFault) (s : Here)
      → Outcome given start c user w pending answers r s → AgreesBy s.kept.acted s
  agrees answers r s (carried_out end value e stepped is wait told) =
      acted-is true _ s told.kept_is stepped.acts (after-agrees end _ end.place.memory _ s stepped refl wait told)
  agrees answers r s (has_exited end status e stepped is left) =
      acted-is true _ s left.tells.kept_is stepped.acts
      (after-agrees end left.call_now left.user_now _ s stepped left.same_steps left.waits left.tells)
  agrees answers r s (refused_before fault now e before left) =
      let files = same-files (MayOpen given c.request) w.contents.tree now before in
      acted-is false _ s left.tells.kept_is refl (before-agrees now _ s files left)
  agrees answers r s (refused_behind fault end value e stepped is left) =
      acted-is true _ s left.tells.kept_is stepped.acts
      (after-agrees end left.call_now left.user_now _ s stepped left.same_steps left.waits left.tells)

pub calls_agree : CallsAgree
calls_agree given start c user w pending answers r s book noted said outcome =
    agrees given start c user w pending book noted said answers r s outcome
