-- The answer that waits is given while the kernel waits for it.
use Rattle.std.proofs.Common.{◌≡◌, ℕ, inl, inr, Bool, List, [], ◌∷◌, refl, sym, ap, subst, ◌∙◌, arith}
use Rattle.std.specs.Prelude.{Result}
use Rattle.chunk_memory.specs.declared.stops.MemStop.{MemStop}
use Rattle.fe_base.specs.MemoryMap.{fromhost}
use Rattle.host_text.specs.Played.{Played, ended, noted, looked, has_read, read_stopped, has_written, write_stopped}
use Rattle.htif_mailbox.specs.Turns.{answer_text, call_answer, give_first, give_text, gone}
use Rattle.kernel_sim.specs.Advance.{StepsAdvance, HostWritesHold}
use Rattle.tether_base.proofs.MailWords.{read-stopped, fromhost-read, answer-written, store-word, stop-word}
use Rattle.tether_base.proofs.Stayed.{stays-ran}
use Rattle.tether_base.specs.Serving.{Here, Giving, was_given, not_given, given_and_cut, GivesAnswers}
use Rattle.tether_base.specs.ToldActs.{seen_acts}
use Rattle.tether_base.specs.Waiting.{CallState, Waiting}

module _ (advance : StepsAdvance) (writes : HostWritesHold) (c : CallState) (empty : c.tohost ≡ 0) (user : List ℕ) where
  puts : {before s s' : Here} {r : Result Bool MemStop} → (s ≡ record before { port = s.port }) → Waiting c user s.port
      → Played seen_acts (answer_text fromhost call_answer 0) s r s' → Giving c user before r s'
  puts {before = before} {s = s} {r = r} is w (has_written {x = x} d (noted n (ended g same))) =
      let put = answer-written advance writes c user s.port x w empty
      (store-word fromhost call_answer s.port x refl (omega arith) d) in
      let P : Here → Type 0 = λ z. Giving c user before r z in
      subst P (sym same) (was_given put.0 put.1 g put.2 put.3 (record {
        folder_is = ap (λ (z : Here). z.folder) is;
        input_is = ap (λ (z : Here). z.input) is;
        console_is = ap (λ (z : Here). z.console) is;
        kept_is = n ∙ ap (λ (z : Here). gone z.kept) is;
      }))
  puts {before = before} {s = s} {r = r} is w (write_stopped {x = x} {why = why} d g same) =
      let P : Here → Type 0 = λ z. Giving c user before r z in
      subst P (sym same) (elim (stop-word fromhost call_answer s.port x why refl (omega arith) d) [
        | inl k ↦ not_given why g (stays-ran advance c user s.port x k.0 w k.1) (record {
          folder_is = ap (λ (z : Here). z.folder) is;
          input_is = ap (λ (z : Here). z.input) is;
          console_is = ap (λ (z : Here). z.console) is;
          kept_is = ap (λ (z : Here). z.kept) is;
        })
        | inr k ↦
            let put = answer-written advance writes c user s.port x w empty k in
            given_and_cut why put.0 put.1 g put.2 put.3 (record {
              folder_is = ap (λ (z : Here). z.folder) is;
              input_is = ap (λ (z : Here). z.input) is;
              console_is = ap (λ (z : Here). z.console) is;
              kept_is = ap (λ (z : Here). z.kept) is;
            })
      ])

  reads : {s s' : Here} {r : Result Bool MemStop} → Waiting c user s.port
      → Played seen_acts (give_first fromhost (call_answer ∷ [])) s r s' → Giving c user s r s'
  reads {s = s} {s' = s'} {r = r} w (has_read {x = x} {bytes = bytes} d next) =
      let got = fromhost-read advance c user s.port x bytes w d in
      let T : ℕ → Type 0 = λ n. Played seen_acts (answer_text fromhost call_answer n) (record s { port = x }) r s' in
      puts {before = s} refl got.0 (subst T got.1 next)
  reads {s = s} {r = r} w (read_stopped {x = x} {why = why} d g same) =
      let P : Here → Type 0 = λ z. Giving c user s r z in
      subst P (sym same) (not_given why g (read-stopped advance c user s.port x fromhost 8 why w d)
      (record { folder_is = refl; input_is = refl; console_is = refl; kept_is = refl }))

  give-waits : {s s' : Here} {r : Result Bool MemStop} → Waiting c user s.port → s.kept.waiting ≡ call_answer ∷ []
      → Played seen_acts (give_text fromhost) s r s' → Giving c user s r s'
  give-waits {s = s} {s' = s'} {r = r} w one (looked p) = let T : List ℕ → Type 0 =
      λ l. Played seen_acts (give_first fromhost l) s r s' in reads w (subst T one p)

pub gives_answers : StepsAdvance → HostWritesHold → GivesAnswers
gives_answers advance writes c user s now r empty wait one played =
    give-waits advance writes c empty user wait one played
