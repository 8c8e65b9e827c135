-- From how a run on the direct machine ended to what the top call says of it.
use Rattle.std.proofs.Common.{◌≡◌, ◌≢◌, ◌≤◌, ◌<◌, ◌+◌, ◌-◌, ◌⊎◌, ◌↔◌, ◌==◌, ◌&&◌, ◌||◌, if◌then◌else◌, inl, inr, ℕ, Bool, true, false, List, [], length, Option, Some, None, refl, ap, sym, subst, ◌∙◌, arith}
use Rattle.std.proofs.lemmas.Bool.{eqb-true, false≢true}
use Rattle.elf_loader.specs.declared.image.Image.{Image}
use Rattle.fe_base.specs.Outside.{Rose}
use Rattle.fe_base.specs.declared.outside.Sink as sink
use Rattle.fe_base.specs.declared.outside.Source as source
use Rattle.folder_tree.specs.Paths.{Parts}
use Rattle.folder_tree.specs.Tree.{Tree}
use Rattle.folder_tree.specs.TreeOps.{opened}
use Rattle.folder_tree.specs.declared.folder.Folder as folder
use Rattle.host_text.specs.World.{Contents}
use Rattle.host_text.specs.declared.open_numbers.Open.{Open}
use Rattle.syscall_proxy.specs.Kept.{Setting}
use Rattle.syscall_proxy.specs.OpenFlags.{cuts}
use Rattle.syscall_proxy.specs.Rows.{low, word}
use Rattle.syscall_proxy.specs.Streams.{StandsBelow}
use Rattle.plain_machine.specs.Asks.{Asked, the_folder, asks_by, asks_folder, asks_input, part_asks, part_cuts, puts_of, request_cuts, row_asks, step_asks, step_cuts, user_asks, user_cuts}
use Rattle.plain_machine.specs.Direct.{DirectState, Machine, running, dying, ended, direct_after, direct_after-zero, status_of}
use Rattle.plain_machine.specs.KernelPart.{Part, gives, breaks, posts, scans}
use Rattle.plain_machine.specs.Outsides.{Outside}
use Rattle.plain_machine.specs.Programs.{Process, part_of}
use Rattle.plain_machine.specs.Stands.{HasFiles, HasRoomFor, IsAt, Leaves, NeverAsks, NeverPuts, PlainRan, PlainState, Spares, Tells, TreeStays, asks, end_opens, first_state, made, tried}
use Rattle.plain_machine.specs.Starts.{direct_start, setting_of, state_after}
use Rattle.plain_machine.specs.UserStep.{UserStep, next, call, trap, user_step}
use Rattle.plain_machine.specs.declared.plain.PlainFault.TheVariants.{FileFault as FileStop, InputFault as InputStop, ConsoleFault as ConsoleStop, OutOfMemory as MemoryStop}
use Rattle.plain_machine.specs.declared.plain.PlainEnd.{PlainEnd}
use Rattle.plain_machine.specs.declared.plain.PlainEnd.TheVariants.{Exited as EndExited, StepsSpent as EndSpent, Fault as EndFault}
use Rattle.spike_front.specs.declared.answer.Answer.{Answer}
use Rattle.spike_front.specs.declared.answer.Answer.TheVariants.{Exited, StepsSpent, FileFault, InputFault, ConsoleFault, OutOfMemory}
use Rattle.spike_front.specs.Answers.{IsRunAnswer, IsStop, Stage, is_stopped}
use Rattle.spike_front.specs.FoundFiles.{StaysOrOpens}
use Rattle.spike_front.specs.Plans.{run}
use Rattle.spike_front.specs.Runs.{IsTimely, LeavesUnasked, PlainRun, RunCase, answer_of, asked_after, case_of, may_open, opens_under, tried_for}
use Rattle.spike_front.proofs.Choices.{and_left}
use Rattle.spike_front.proofs.Stages.{run_answer, other_stage, stop_of_run}

-- the end that an answer tells, where it tells one
end_of : Answer → PlainEnd
end_of (Exited status) = EndExited status
end_of (StepsSpent n) = EndSpent
end_of FileFault = EndFault FileStop
end_of InputFault = EndFault InputStop
end_of ConsoleFault = EndFault ConsoleStop
end_of OutOfMemory = EndFault MemoryStop
end_of _ = EndSpent

end_back : (limit : ℕ) (end : PlainEnd) → end_of (answer_of limit end) ≡ end
unfolding end_of
end_back limit (EndExited status) = refl
end_back limit EndSpent = refl
end_back limit (EndFault FileStop) = refl
end_back limit (EndFault InputStop) = refl
end_back limit (EndFault ConsoleStop) = refl
end_back limit (EndFault MemoryStop) = refl

-- an end is told by its answer
told_back : (limit : ℕ) (end : PlainEnd) (a : Answer) → answer_of limit end ≡ a → end ≡ end_of a
told_back limit end a h = sym (end_back limit end) ∙ ap end_of h

pub exited_back : (limit : ℕ) (end : PlainEnd) (status : ℕ) → answer_of limit end ≡ Exited status → end ≡ EndExited status
unfolding end_of
exited_back limit end status h = told_back limit end (Exited status) h

pub spent_back : (limit : ℕ) (end : PlainEnd) (n : ℕ) → answer_of limit end ≡ StepsSpent n → (end ≡ EndSpent) × (n ≡ limit)
unfolding end_of
spent_back limit end n h =
    let is : end ≡ EndSpent = told_back limit end (StepsSpent n) h in
    let same : StepsSpent limit ≡ StepsSpent n = sym (ap (answer_of limit) is) ∙ h in
    (is, cc)

pub file_back : (limit : ℕ) (end : PlainEnd) → answer_of limit end ≡ FileFault → end ≡ EndFault FileStop
unfolding end_of
file_back limit end h = told_back limit end FileFault h

pub input_back : (limit : ℕ) (end : PlainEnd) → answer_of limit end ≡ InputFault → end ≡ EndFault InputStop
unfolding end_of
input_back limit end h = told_back limit end InputFault h

pub console_back : (limit : ℕ) (end : PlainEnd) → answer_of limit end ≡ ConsoleFault → end ≡ EndFault ConsoleStop
unfolding end_of
console_back limit end h = told_back limit end ConsoleFault h

pub memory_back : (limit : ℕ) (end : PlainEnd) → answer_of limit end ≡ OutOfMemory → end ≡ EndFault MemoryStop
unfolding end_of
memory_back limit end h = told_back limit end OutOfMemory h

-- an openat that takes a file's bytes away asks the folder
request_asks : (numbers : List Open) (request user : List ℕ) → request_cuts request ≡ true → row_asks numbers request user ≡ the_folder
request_asks numbers request user h =
    let number : word request 0 ≡ 56 = eqb-true (word request 0) 56 (and_left (word request 0 == 56) (cuts (low (word request 4))) h) in
    subst (λ (n : ℕ). asks_by n numbers request user ≡ the_folder) (sym number) refl

part_cuts_asks : (numbers : List Open) (user : List ℕ) (part : Part) → part_cuts part ≡ true → part_asks numbers user part ≡ the_folder
part_cuts_asks numbers user (gives answer) h = cc
part_cuts_asks numbers user (breaks moved) h = cc
part_cuts_asks numbers user (posts request) h = request_asks numbers request user h
part_cuts_asks numbers user scans h = cc

user_cuts_asks : (numbers : List Open) (process : Process) (step : UserStep) → user_cuts process step ≡ true → user_asks numbers process step ≡ the_folder
user_cuts_asks numbers process (next moved) h = cc
user_cuts_asks numbers process call h = part_cuts_asks numbers process.state.user (part_of process) h
user_cuts_asks numbers process (trap cause value) h = cc

cuts_asks : (numbers : List Open) (machine : Machine) → step_cuts machine ≡ true → step_asks numbers machine ≡ the_folder
cuts_asks numbers (running process) h = user_cuts_asks numbers process (user_step process.state) h
cuts_asks numbers (dying text status) h = cc
cuts_asks numbers (ended status) h = cc

or_right : (a b : Bool) → b ≡ true → (a || b) ≡ true
or_right true b h = refl
or_right false b h = h

-- where a run's end may have opened a file once more, so may its answer
opens_told : (limit steps : ℕ) (machine : Machine) (end : PlainEnd) → (end ≡ EndFault InputStop → step_cuts machine ≡ true → ⊥)
    → (end ≡ EndFault ConsoleStop → step_cuts machine ≡ true → ⊥) → end_opens end machine ≡ true → may_open (answer_of limit end) steps machine ≡ true
opens_told limit steps machine (EndExited status) input console h = cc
opens_told limit steps machine EndSpent input console h = cc
opens_told limit steps machine (EndFault FileStop) input console h = or_right (steps == 0) (step_cuts machine) h
opens_told limit steps machine (EndFault InputStop) input console h = absurd (input refl h)
opens_told limit steps machine (EndFault ConsoleStop) input console h = absurd (console refl h)
opens_told limit steps machine (EndFault MemoryStop) input console h = or_right (steps == 0) (step_cuts machine) h

-- how many steps were tried, by the answer
tried_by : (limit : ℕ) (end : PlainEnd) (steps : ℕ) → tried end steps ≡ tried_for (answer_of limit end) steps
tried_by limit (EndExited status) steps = refl
tried_by limit EndSpent steps = refl
tried_by limit (EndFault FileStop) steps = refl
tried_by limit (EndFault InputStop) steps = refl
tried_by limit (EndFault ConsoleStop) steps = refl
tried_by limit (EndFault MemoryStop) steps = refl

pub tried_same : (limit : ℕ) (end : PlainEnd) (answer : Answer) (m n : ℕ) → answer ≡ answer_of limit end → m ≡ n → tried end m ≡ tried_for answer n
tried_same limit end answer m n said same = ap (tried end) same ∙ tried_by limit end n ∙ ap (λ (a : Answer). tried_for a n) (sym said)

-- a path below a root stands below that of an answer
under : (b : Bool) (root path : Parts) → StandsBelow root path → StandsBelow (if b then [] else root) path
under true root path below = (path, refl)
under false root path below = below

tree_spared : (b d e : Bool) (root : Parts) (t : Tree) (told : Option Tree) → (b ≡ true → d ≡ true) → TreeStays b root t told → TreeStays d (if e then [] else root) t told
tree_spared true true e root t told more (inl same) = inl same
tree_spared true true e root t told more (inr (path, number, below, at, is)) = inr (path, number, under e root path below, at, is)
tree_spared true false e root t told more stays = absurd (false≢true (more refl))
tree_spared false true e root t told more stays = inl stays
tree_spared false false e root t told more stays = stays

-- what is spared stays spared where more may be open
spared_as : (b d : Bool) (steps : ℕ) (root : Parts) (contents now : Contents) {input console : Option (List ℕ)} {tree : Option Tree} → contents ≡ now → (b ≡ true → d ≡ true)
    → Spares b root contents input console tree → Spares d (opens_under steps root) now input console tree
spared_as b d steps root contents now {input} {console} {tree} same more spared =
    subst (λ (c : Contents). Spares d (opens_under steps root) c input console tree) same (record {
      input_told = spared.input_told;
      console_told = spared.console_told;
      tree_stays = tree_spared b d (steps == 0) root contents.tree tree more spared.tree_stays;
    })

-- so many steps of the direct run, in other words
state_same : (given other : Setting) (m n : ℕ) (first : DirectState) → given ≡ other → m ≡ n → direct_after given m first ≡ direct_after other n first
state_same given other m n first same steps = ap (λ (g : Setting). direct_after g m first) same ∙ ap (λ (k : ℕ). direct_after other k first) steps

-- the steps that were made since the start
pub made_all : (old new : PlainState) (steps : ℕ) → old.steps ≡ 0 → steps ≡ new.steps → made old new ≡ steps
made_all old new steps none all = omega (arith, none, all)

module _ (c : RunCase) (old new : PlainState) (end : PlainEnd) (steps : ℕ) {input console : Option (List ℕ)} {tree : Option Tree}
    (given : old.given ≡ setting_of c.start) (none : old.steps ≡ 0) (all : steps ≡ new.steps)
    (ran : PlainRan (direct_start c.start) old new end input console tree) where
  there : direct_after old.given (made old new) (direct_start c.start) ≡ state_after steps c.start
  there = state_same old.given (setting_of c.start) (made old new) steps (direct_start c.start) given (made_all old new steps none all)

  machine_there : new.machine ≡ (state_after steps c.start).machine
  machine_there = ran.machine ∙ ap (λ (s : DirectState). s.machine) there

  -- what the machine asks next is what the direct run asks there
  pub asks_there : asks new ≡ asked_after steps c.start
  asks_there =
      ap (λ (numbers : List Open). step_asks numbers new.machine) (ran.numbers ∙ ap (λ (s : DirectState). s.world.numbers) there)
      ∙ ap (step_asks (state_after steps c.start).world.numbers) machine_there

  -- where so many steps were made from the start, and the run ended so, that is what the top call says
  pub plain_run : (answer : Answer) → answer ≡ answer_of c.limit end
      → ((end ≡ EndSpent) ↔ ((status_of new.machine ≡ None) × (new.steps ≡ c.limit)))
      → new.steps ≤ c.limit
      → (end ≡ EndFault InputStop → asks_input (asks new) ≡ true)
      → (end ≡ EndFault ConsoleStop → puts_of (asks new) ≢ [])
      → PlainRun c answer steps input console tree
  plain_run answer said spent within input_asked console_asked =
      let no_input : end ≡ EndFault InputStop → step_cuts new.machine ≡ true → ⊥ = λ is cut.
      let asked = cuts_asks new.numbers new.machine cut in
      let wanted : asks_input (asks new) ≡ false = ap asks_input asked in
      let known = input_asked is in
      cc in
      let no_console : end ≡ EndFault ConsoleStop → step_cuts new.machine ≡ true → ⊥ = λ is cut. console_asked is (ap puts_of (cuts_asks new.numbers new.machine cut)) in
      let opens : end_opens end new.machine ≡ true → may_open answer steps (state_after steps c.start).machine ≡ true = λ h.
      ap (λ (a : Answer). may_open a steps (state_after steps c.start).machine) said
      ∙ ap (may_open (answer_of c.limit end) steps) (sym machine_there)
      ∙ opens_told c.limit steps new.machine end no_input no_console h in
      record {
        ran = record {
          contents = subst (λ (s : DirectState). Leaves s.world.contents input console tree) there ran.ran.contents;
          earlier = λ n low.
              subst (λ (g : Setting). status_of (direct_after g n (direct_start c.start)).machine ≡ None) given
              (ran.ran.earlier n (subst (λ (k : ℕ). n < k) (sym (made_all old new steps none all)) low));
          exited = λ status. (
            (λ h. ap (λ (s : DirectState). s.machine) (sym there) ∙ (ran.ran.exited status).0 (exited_back c.limit end status (sym said ∙ h))),
            (λ h. said ∙ ap (answer_of c.limit) ((ran.ran.exited status).1 (ap (λ (s : DirectState). s.machine) there ∙ h))),
          );
        };
        spared = spared_as (end_opens end new.machine) _ steps c.start.root _ _ (ap (λ (s : DirectState). s.world.contents) there) opens
            (subst (λ (g : Setting). Spares (end_opens end new.machine) g.root (direct_after old.given (made old new) (direct_start c.start)).world.contents input console tree) given ran.spared);
        within = omega (arith, within, all);
        spent = λ n. (
          (λ h.
              let both = spent_back c.limit end n (sym said ∙ h) in
              let stands = spent.0 both.0 in
              (both.1, all ∙ stands.1, sym (ap status_of machine_there) ∙ stands.0)),
          (λ h. said ∙ ap (answer_of c.limit) (spent.1 (ap status_of machine_there ∙ h.2, sym all ∙ h.1)) ∙ ap StepsSpent (sym h.0)),
        );
        answers = subst IsRunAnswer (sym said) (run_answer c.limit end);
      }

-- a machine that was started stands at the direct start
pub begun : (c : RunCase) (plain : PlainState) {input console : Option (List ℕ)} {tree : Option Tree}
    → plain ≡ first_state c.start.image c.start.args c.start.root
    → Tells c.start.contents input console tree → IsAt (direct_start c.start) plain input console tree
begun c plain is told = record {
  machine_is = ap (λ (p : PlainState). p.machine) is;
  numbers_is = ap (λ (p : PlainState). p.numbers) is;
  contents = told;
}

-- what is never asked, in other words
pub never_asked : (test : Asked → Bool) (given other : Setting) (m n : ℕ) (first : DirectState) → given ≡ other → m ≡ n → NeverAsks test other first n → NeverAsks test given first m
never_asked test given other m n first same steps never =
    subst (λ (g : Setting). NeverAsks test g first m) (sym same) (subst (λ (k : ℕ). NeverAsks test other first k) (sym steps) never)

pub never_put : (given other : Setting) (m n : ℕ) (first : DirectState) → given ≡ other → m ≡ n → NeverPuts other first n → NeverPuts given first m
never_put given other m n first same steps never =
    subst (λ (g : Setting). NeverPuts g first m) (sym same) (subst (λ (k : ℕ). NeverPuts other first k) (sym steps) never)

-- the same room for the same run
pub room_for : (all : Option ℕ) (given other : Setting) (m n : ℕ) (first : DirectState) → given ≡ other → m ≡ n
    → HasRoomFor all (length (direct_after other (n + 1) first).world.contents.console) → HasRoomFor all (length (direct_after given (m + 1) first).world.contents.console)
room_for all given other m n first same steps room =
    subst (λ (s : DirectState). HasRoomFor all (length s.world.contents.console)) (sym (state_same given other (m + 1) (n + 1) first same (ap (λ (k : ℕ). k + 1) steps))) room

-- what stays or opens leaves a tree that may be open once more, of any file
tree_opened : (t : Tree) (told : Option Tree) → StaysOrOpens t told → TreeStays true [] t told
tree_opened t told (inl same) = inl same
tree_opened t told (inr (path, number, at, is)) = inr (path, number, (path, refl), at, is)

-- what ended before its first step leaves what it began with
pub stopped_run : (c : RunCase) (e : Answer) {input console : Option (List ℕ)} {tree : Option Tree} → 0 < c.limit → IsStop e
    → input ≡ Some c.start.contents.input → console ≡ Some c.start.contents.console → HasFiles c.start.contents.tree tree → StaysOrOpens c.start.contents.tree tree
    → PlainRun c e 0 input console tree
stopped_run c e {input} {console} {tree} some stop input_told console_told files opens =
    let first : state_after 0 c.start ≡ direct_start c.start = direct_after-zero (setting_of c.start) (direct_start c.start) in
    let may : may_open e 0 (state_after 0 c.start).machine ≡ true = ap (λ (s : Stage). is_stopped s && true) stop in
    record {
      ran = record {
        contents = subst (λ (s : DirectState). Leaves s.world.contents input console tree) (sym first) (record { input_told = input_told; console_told = console_told; files_told = files });
        earlier = λ n low. absurd (omega (arith, low));
        exited = λ status. (
          (λ h. absurd (other_stage e (Exited status) stop (λ is. cc) h)),
          (λ h. let never = sym (ap (λ (s : DirectState). s.machine) first) ∙ h in absurd cc),
        );
      };
      spared = subst (λ (b : Bool). Spares b [] (state_after 0 c.start).world.contents input console tree) (sym may)
          (subst (λ (s : DirectState). Spares true [] s.world.contents input console tree) (sym first)
          (record { input_told = input_told; console_told = console_told; tree_stays = tree_opened c.start.contents.tree tree opens }));
      within = omega arith;
      spent = λ n. ((λ h. absurd (other_stage e (StepsSpent n) stop (λ is. cc) h)), (λ h. absurd (omega (arith, some, h.1))));
      answers = stop_of_run e stop;
    }

-- and comes before the first step
pub stopped_timely : (c : RunCase) (e : Answer) → IsStop e → IsTimely c e 0
stopped_timely c e stop = record {
  input_asked = λ h. absurd (other_stage e InputFault stop (λ is. cc) h);
  console_asked = λ h. absurd (other_stage e ConsoleFault stop (λ is. cc) h);
  file_asked = λ h low. absurd (omega (arith, low));
  memory_asked = λ h low. absurd (omega (arith, low));
}

-- the run of a plan is the case that was asked for
pub case_same : (c : RunCase) (image : Image) (args : List (List ℕ)) (root : Parts) (limit : ℕ) → run image args root limit ≡ run c.start.image c.start.args c.start.root c.limit
    → case_of image args root c.start.contents limit ≡ c
case_same c image args root limit e =
    let same_image : image ≡ c.start.image = cc in
    let same_args : args ≡ c.start.args = cc in
    let same_root : root ≡ c.start.root = cc in
    let same_limit : limit ≡ c.limit = cc in
    λ i. record {
      start = record { image = same_image i; args = same_args i; root = same_root i; contents = c.start.contents };
      limit = same_limit i;
    }

-- the same run, in other words
pub run_as : (c d : RunCase) (answer : Answer) (steps : ℕ) {input console : Option (List ℕ)} {tree : Option Tree} → c ≡ d → PlainRun c answer steps input console tree → PlainRun d answer steps input console tree
run_as c d answer steps {input} {console} {tree} same ran = subst (λ (e : RunCase). PlainRun e answer steps input console tree) same ran

pub unasked_as : {F I C : Type 0} {f : folder.Ghosts F} {i : source.Ghosts I} {k : sink.Ghosts C} {old new : Outside F I C} (c d : RunCase) (answer : Answer) (steps : ℕ)
    → c ≡ d → LeavesUnasked f i k c old new answer steps → LeavesUnasked f i k d old new answer steps
unasked_as {F} {I} {C} {f} {i} {k} {old} {new} c d answer steps same left = subst (λ (e : RunCase). LeavesUnasked f i k e old new answer steps) same left

-- a count that rose behind another place rose from there
pub rose_from : (a b n : ℕ) → a ≤ b → Rose b n → Rose a n
rose_from a b n later rose = omega (arith, later, rose)
