-- Which answers are of which class, by where the work stands.
use Rattle.std.proofs.Common.{◌≡◌, ◌++◌, ◌⊎◌, inl, inr, ℕ, Bool, true, false, List, Option, Some, refl, ap, sym, subst, ◌∙◌}
use Rattle.plain_machine.specs.declared.plain.PlainFault.TheVariants.{FileFault as FileStop, InputFault as InputStop, ConsoleFault as ConsoleStop, OutOfMemory as MemoryStop}
use Rattle.plain_machine.specs.declared.plain.PlainEnd.{PlainEnd}
use Rattle.plain_machine.specs.declared.plain.PlainEnd.TheVariants.{Exited as EndExited, StepsSpent as EndSpent, Fault as EndFault}
use Rattle.spike_front.specs.declared.answer.Answer.{Answer}
use Rattle.spike_front.specs.declared.answer.Answer.TheVariants.{ConsoleFault, Done, ReportFault}
use Rattle.spike_front.specs.declared.words.WordFault.{WordFault}
use Rattle.spike_front.specs.declared.words.WordFault.TheVariants.{Usage, NotBuilt}
use Rattle.spike_front.specs.Answers.{Stage, words_refused, file_missing, program_refused, setting_refused, assembly_refused, stage_of, IsRefusal, IsRunAnswer, IsSaid, IsStop, IsWordsRefusal, Yields}
use Rattle.spike_front.specs.Causes.{RoseFor}
use Rattle.spike_front.specs.Plans.{Planned, answer_of_fault, refuse}
use Rattle.spike_front.specs.Report.{line_of, Reported}
use Rattle.spike_front.specs.Runs.{answer_of}

pub run_answer : (limit : ℕ) (end : PlainEnd) → IsRunAnswer (answer_of limit end)
run_answer limit (EndExited status) = inl refl
run_answer limit EndSpent = inl refl
run_answer limit (EndFault FileStop) = inr (inl refl)
run_answer limit (EndFault InputStop) = inr (inr refl)
run_answer limit (EndFault ConsoleStop) = inr (inr refl)
run_answer limit (EndFault MemoryStop) = inr (inl refl)

-- words that are no command are refused as words
pub words_refusal_of : (fault : WordFault) → IsWordsRefusal (answer_of_fault fault)
words_refusal_of (Usage kind place) = refl
words_refusal_of NotBuilt = refl

-- an answer is none of another stage
pub other_stage : (e a : Answer) {s : Stage} → stage_of e ≡ s → (stage_of a ≡ s → ⊥) → e ≡ a → ⊥
other_stage e a stage other is = other (sym (ap stage_of is) ∙ stage)

pub stop_yields : (e : Answer) → IsStop e → Yields e
stop_yields e stop = inl stop

pub stop_of_run : (e : Answer) → IsStop e → IsRunAnswer e
stop_of_run e stop = inr (inl stop)

-- the stages at which the work is refused
refuses : Stage → Bool
refuses words_refused = true
refuses file_missing = true
refuses program_refused = true
refuses setting_refused = true
refuses assembly_refused = true
refuses _ = false

refusal_refuses : (a : Answer) → IsRefusal a → refuses (stage_of a) ≡ true
unfolding refuses
refusal_refuses a (inl words) = ap refuses words
refusal_refuses a (inr (inl (inl file))) = ap refuses file
refusal_refuses a (inr (inl (inr (inl program)))) = ap refuses program
refusal_refuses a (inr (inl (inr (inr setting)))) = ap refuses setting
refusal_refuses a (inr (inr (inl file))) = ap refuses file
refusal_refuses a (inr (inr (inr assembly))) = ap refuses assembly

-- no answer of a run refuses
pub run_not_refusal : (a : Answer) → IsRunAnswer a → IsRefusal a → ⊥
unfolding refuses
run_not_refusal a (inl ran) refused = let is : refuses (stage_of a) ≡ false = ap refuses ran in let other = refusal_refuses a refused in cc
run_not_refusal a (inr (inl stopped)) refused = let is : refuses (stage_of a) ≡ false = ap refuses stopped in let other = refusal_refuses a refused in cc
run_not_refusal a (inr (inr failed)) refused = let is : refuses (stage_of a) ≡ false = ap refuses failed in let other = refusal_refuses a refused in cc

-- no answer but the report's fault takes the place of another
report_not_refusal : (a : Answer) → a ≡ ReportFault → IsRefusal a → ⊥
unfolding refuses
report_not_refusal a is refused = let never : refuses (stage_of a) ≡ false = ap (λ (b : Answer). refuses (stage_of b)) is in let other = refusal_refuses a refused in cc

-- what refuses is no put, nor is what stops the work
pub refusal_puts_none : {P : Type 0} (a : Answer) → IsRefusal a → (a ≡ Done) ⊎ (a ≡ ConsoleFault) → P
unfolding refuses
refusal_puts_none a refused (inl is) = let never : refuses (stage_of a) ≡ false = ap (λ (b : Answer). refuses (stage_of b)) is in let other = refusal_refuses a refused in cc
refusal_puts_none a refused (inr is) = let never : refuses (stage_of a) ≡ false = ap (λ (b : Answer). refuses (stage_of b)) is in let other = refusal_refuses a refused in cc

pub stop_puts_none : {P : Type 0} (a : Answer) → (a ≡ Done) ⊎ (a ≡ ConsoleFault) → IsStop a → P
stop_puts_none a (inl is) stop = absurd (other_stage a Done stop (λ e. cc) is)
stop_puts_none a (inr is) stop = absurd (other_stage a ConsoleFault stop (λ e. cc) is)

-- a refusal that is said was one before the report
pub early_said : {P : Type 0} (e result : Answer) → IsSaid e result → IsRefusal result → (IsRefusal e → P) → P
early_said e result (inl same) early then = then (subst IsRefusal same early)
early_said e result (inr fault) early then = absurd (report_not_refusal result fault early)

-- a refusal that is said is the plan's
pub refusal_said : (plan : Planned) (e result : Answer) → IsSaid e result → IsRefusal result → (IsRefusal e → plan ≡ refuse e) → plan ≡ refuse result
refusal_said plan e result (inl same) refused known = known (subst IsRefusal same refused) ∙ ap refuse (sym same)
refusal_said plan e result (inr fault) refused known = absurd (report_not_refusal result fault refused)

-- what is said to words that are no command is what they are answered
pub words_said : (e result : Answer) (o : Option Answer) → IsSaid e result → (IsWordsRefusal e → o ≡ Some e) → IsWordsRefusal result → o ≡ Some result
words_said e result o (inl same) known refused = known (subst IsWordsRefusal same refused) ∙ ap Some (sym same)
words_said e result o (inr fault) known refused = absurd (report_not_refusal result fault (inl refused))

-- what is answered but for the report's fault is what was answered before the report
pub said_of : {P : Type 0} (e result a : Answer) → (a ≡ ReportFault → ⊥) → IsSaid e result → result ≡ a → (e ≡ a → P) → P
said_of e result a other (inl same) is then = then (sym same ∙ is)
said_of e result a other (inr fault) is then = absurd (other (sym is ∙ fault))

-- want of memory and a fault of the folder are none of the report
pub stop_said : {P : Type 0} (e result : Answer) → IsSaid e result → IsStop result → (IsStop e → P) → P
stop_said e result (inl same) stop then = then (subst IsStop same stop)
stop_said e result (inr fault) stop then = absurd (other_stage result ReportFault stop (λ is. cc) fault)

-- and so is its cause
pub rose_said : (e result a : Answer) {before now : ℕ} → (a ≡ ReportFault → ⊥) → IsSaid e result → RoseFor (e ≡ a) before now → RoseFor (result ≡ a) before now
rose_said e result a other said cause = record {
  later = cause.later;
  rose = λ is. said_of e result a other said is cause.rose;
}

-- the answer that is said is another's where both are one
pub said_as : (a e result : Answer) → e ≡ a → IsSaid e result → IsSaid a result
said_as a e result same said = subst (λ (b : Answer). IsSaid b result) same said

pub reported_at : (result : Answer) (steps m : Option ℕ) (before after : Option (List ℕ)) → steps ≡ m → Reported result steps before after → Reported result m before after
reported_at result steps m before after same reported = λ held told. reported held told ∙ ap (λ n. Some (held ++ line_of result n)) same
