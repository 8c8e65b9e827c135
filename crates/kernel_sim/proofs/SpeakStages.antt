-- Steps in Speak and Closing.
use Rattle.std.proofs.Common.{◌≡◌, ℕ, ◌+◌, ◌-◌, ◌*◌, ◌%◌, ◌^◌, ◌<◌, ◌≤◌, ◌==◌, Bool, true, false, ◌&&◌, ◌||◌, inl, inr, List, [], ◌∷◌, get_or, refl, ap, sym, subst, ◌∙◌, arith, if◌then◌else◌, nat_lt}
use Rattle.std.specs.Prelude.{slice_index, not, min}
use Rattle.std.proofs.lemmas.Bool.{false≢true, eqb-true, and_parts}
use Rattle.std.proofs.lemmas.Bool.Decides.{nat_tests}
use Rattle.fe_base.specs.MemoryMap.{kernel_code_size, tohost}
use Rattle.guest_memory.proofs.AreaLemmas.{bus_load-kernel}
use Rattle.rv_hart.specs.HartStep.{System, AreRegisters, hart_step}
use Rattle.kernel_sim.proofs.Text.{values-get, is-counter, no-opcode, no-funct3, no-number}
use Rattle.plain_machine.specs.Messages.{is_counter_access}
use Rattle.guest_memory.specs.Memory.{load}
use Rattle.guest_memory.specs.Bus.{IsBus}
use Rattle.guest_memory.specs.Bus.{bus_load}
use Rattle.kernel_sim.specs.declared.phase.PhaseKind.TheVariants.{Speak, Closing}
use Rattle.kernel_sim.specs.declared.phase.Phase.{Phase}
use Rattle.kernel_steps.specs.Terms.{Unknown, Is, is_known}
use Rattle.kernel_steps.specs.States.{State, Describes}
use Rattle.kernel_steps.specs.Blocks.{Here, Moves, Stays, Goes_to, Left_open, same, has_fact}
use Rattle.kernel_code.specs.Kinds.{may_follow, followers}
use Rattle.kernel_steps.specs.Blocks.{member}
use Rattle.kernel_code.specs.Kernel.{kernel, blocks}
use Rattle.kernel_sim.specs.Phases.{message, console_word}
use Rattle.kernel_sim.specs.Stages.{Stage, Choosing, base, Saying, Said, Ending, stage_kind, Says, Links}
use Rattle.kernel_steps.proofs.Soundness.{value-Is, CellsAre-get}
use Rattle.kernel_steps.proofs.GraphLaws.{same-path, has_fact-holds}
use Rattle.kernel_steps.proofs.Tests.{In, member-In, blocks_all-at}
use Rattle.kernel_sim.proofs.Gates.{speaks_ok, speaks_right, leads_ok, leads_right, ends_here, closes_ok, closes_right, is_open, message_terms, word_term, says_at, no_counter, fact_cause, fact_other, fact_opcode, fact_funct3, fact_number, landed, lands, no_facts}
use Rattle.kernel_code.specs.Numbers.{choosing_blocks, trap_words, counter_words, v_cause, v_value, store_gates, counter_end_blocks, trap_end_blocks, trap_words_gate, counter_words_gate}
use Rattle.kernel_code.specs.Places.{pc_put_done, pc_close, tohost_cell, tohost_place}
use Rattle.kernel_sim.proofs.PathLaws.{or-elim, not-false}
use Rattle.kernel_sim.proofs.TrapLaws.{both-true, forget-facts}
use Rattle.kernel_sim.proofs.MessageLaws.{word-value, message_terms-message, gate-said, follow-even, follow-odd, base-low, base-top, base-even, is_known-word, end-away, end-behind, message-long, speaks-even, speaks-odd, leads-odd, closes-big, shut}
use Rattle.kernel_sim.proofs.StageLaws.{Setting, next, Goal, land, At, Into, moves, enter, gate, open-never, relink, goes-elsewhere}

module _ (given : Setting) where
  abbrev p : Phase
  p = given.phase

  abbrev sys : System
  sys = given.system

  abbrev fit : AreRegisters sys.hart.registers
  fit = given.fit

  abbrev fit_next : AreRegisters (hart_step sys).hart.registers
  fit_next = given.fit_next

  abbrev whole : IsBus sys.bus
  whole = given.whole

  abbrev whole_next : IsBus (hart_step sys).bus
  whole_next = given.whole_next

  module _ (user : List ℕ) (env : ℕ → ℕ) where
    pub quiet : (pc : ℕ) → (pc == pc_put_done) ≡ false → (if pc == pc_put_done then min (p.text.posted + 1) (2 ^ 32 - 1) else p.text.posted) ≡ p.text.posted
    quiet pc e = rw e refl

    pub speaks-at : (k : ℕ) (to : ℕ → ℕ) (n : Here kernel user to blocks k (next given)) → speaks_ok k n.state ≡ true
    speaks-at k to n = subst (λ z. speaks_ok z n.state ≡ true) n.kind (blocks_all-at speaks_ok kernel blocks n.block n.state speaks_right n.among n.on)

    pub cause-or : (s : State) → Describes kernel user env s (next given) → Says p.text env → no_counter s.facts ≡ true → p.text.counter ≡ false
    cause-or s m h e = h.counter_is ∙ or-elim (has_fact fact_other s.facts) _ e
        (λ q. let f = has_fact-holds env fact_other s.facts q m.facts in rw f refl)
        (λ q. go (env v_cause == 2) refl q)
      where
        word : (env v_cause == 2) ≡ true → env v_value < 2 ^ 32
        word e = h.word_fits (eqb-true (env v_cause) 2 e)

        go : (c : Bool) → (env v_cause == 2) ≡ c → (has_fact (fact_opcode false) s.facts || (has_fact (fact_funct3 true) s.facts || has_fact (fact_number false) s.facts)) ≡ true → (c && is_counter_access (env v_value)) ≡ false
        go false e q = refl
        go true e q = or-elim (has_fact (fact_opcode false) s.facts) (has_fact (fact_funct3 true) s.facts || has_fact (fact_number false) s.facts) q
            (λ r. no-opcode (env v_value) (has_fact-holds env (fact_opcode false) s.facts r m.facts))
            (λ r. or-elim (has_fact (fact_funct3 true) s.facts) (has_fact (fact_number false) s.facts) r
            (λ t. no-funct3 (env v_value) (has_fact-holds env (fact_funct3 true) s.facts t m.facts))
            (λ t. no-number (env v_value) (word e) (has_fact-holds env (fact_number false) s.facts t m.facts)))

    pub choosing : (At given user env) choosing_blocks → Links Choosing p.user env → Says p.text env × (p.text.posted ≡ 0) → (Goal given) Speak
    choosing w l x = go ((moves given user env) choosing_blocks w)
      where
        same : (n : Here kernel user env blocks choosing_blocks (next given)) → ((next given).hart.pc == pc_put_done) ≡ false
        same n = ap (λ z. z == pc_put_done) n.describes.at ∙ not-false (n.state.at == pc_put_done) (speaks-at choosing_blocks env n)

        -- an entered message: no byte was posted
        begins : (c : Bool) (n : Here kernel user env blocks (base c + 2 * 0) (next given)) → ((next given).hart.pc == pc_put_done) ≡ false → p.text.counter ≡ c → (Goal given) Speak
        begins c n e f = (land given) Speak (Saying c 0) refl tt user env n ((relink given user env) Choosing (Saying c 0) p.user (λ z. z) l.pc_is l.break_is l)
            (record { counter_is = x.0.counter_is; cause_is = x.0.cause_is; at_is = x.0.at_is; value_is = x.0.value_is; word_fits = x.0.word_fits }, f, quiet (next given).hart.pc e ∙ x.1, omega arith)

        traps : (n : (Into given user env) choosing_blocks) → n.block.kind ≡ trap_words_gate → (Goal given) Speak
        traps n e =
            let s = n.block.start in
            let t = and_parts (no_counter s.facts) (lands trap_words (no_facts s)) ((gate given user env) choosing_blocks trap_words_gate n e) in
            let h : Here kernel user env blocks trap_words (next given) = landed user env trap_words (no_facts s) (next given) t.1 (forget-facts kernel user env s (next given) n.describes) in
            begins false h (ap (λ z. z == pc_put_done) h.describes.at ∙ not-false (h.state.at == pc_put_done) (speaks-at trap_words env h)) (cause-or s n.describes x.0 t.0)

        counts : (n : (Into given user env) choosing_blocks) → n.block.kind ≡ counter_words_gate → (Goal given) Speak
        counts n e =
            let s = n.block.start in
            let t = and_parts (has_fact fact_cause s.facts && has_fact (fact_opcode true) s.facts && has_fact (fact_funct3 false) s.facts && has_fact (fact_number true) s.facts) (lands counter_words (no_facts s)) ((gate given user env) choosing_blocks counter_words_gate n e) in
            let t1 = and_parts (has_fact fact_cause s.facts && has_fact (fact_opcode true) s.facts && has_fact (fact_funct3 false) s.facts) (has_fact (fact_number true) s.facts) t.0 in
            let t2 = and_parts (has_fact fact_cause s.facts && has_fact (fact_opcode true) s.facts) (has_fact (fact_funct3 false) s.facts) t1.0 in
            let t3 = and_parts (has_fact fact_cause s.facts) (has_fact (fact_opcode true) s.facts) t2.0 in
            let f1 = has_fact-holds env fact_cause s.facts t3.0 n.describes.facts in
            let f2 = has_fact-holds env (fact_opcode true) s.facts t3.1 n.describes.facts in
            let f3 = has_fact-holds env (fact_funct3 false) s.facts t2.1 n.describes.facts in
            let f4 = has_fact-holds env (fact_number true) s.facts t1.1 n.describes.facts in
            let word = x.0.word_fits (eqb-true (env v_cause) 2 f1) in
            let counter : is_counter_access (env v_value) ≡ true = is-counter (env v_value) word f2 f3 f4 in
            let h : Here kernel user env blocks counter_words (next given) = landed user env counter_words (no_facts s) (next given) t.1 (forget-facts kernel user env s (next given) n.describes) in
            begins true h (ap (λ z. z == pc_put_done) h.describes.at ∙ not-false (h.state.at == pc_put_done) (speaks-at counter_words env h)) (x.0.counter_is ∙ both-true (env v_cause == 2) (is_counter_access (env v_value)) f1 counter)

        stays : Here kernel user env blocks choosing_blocks (next given) → (Goal given) Speak
        stays n = (land given) Speak Choosing refl tt user env n l (record { counter_is = x.0.counter_is; cause_is = x.0.cause_is; at_is = x.0.at_is; value_is = x.0.value_is; word_fits = x.0.word_fits }, quiet (next given).hart.pc (same n) ∙ x.1)

        enters : (n : (Into given user env) choosing_blocks) → In n.block.kind (choosing_blocks ∷ trap_words_gate ∷ counter_words_gate ∷ []) → (Goal given) Speak
        enters n (inl e) = stays ((enter given user env) choosing_blocks choosing_blocks n e)
        enters n (inr (inl e)) = traps n e
        enters n (inr (inr (inl e))) = counts n e
        enters n (inr (inr (inr e))) = absurd e

        go : Moves may_follow kernel user env blocks choosing_blocks w.block w.state (next given) → (Goal given) Speak
        go (Stays n) = stays n
        go (Goes_to n) = enters n (member-In n.block.kind (choosing_blocks ∷ trap_words_gate ∷ counter_words_gate ∷ []) n.goes)
        go (Left_open c i) = absurd ((open-never given user env) choosing_blocks w refl c)

    -- the word that was stored is that of the next byte
    abbrev pub WordOk : Type 0
    WordOk = ((next given).hart.pc == pc_put_done) ≡ true → bus_load (next given).bus tohost 8 ≡ console_word (slice_index (message p.text) p.text.posted)

    pub word-stored : (c : Bool) (t : ℕ) (s : State) → says_at c t s ≡ true → Says p.text env → p.text.counter ≡ c → Describes kernel user env s (next given) → bus_load (next given).bus tohost 8 ≡ console_word (slice_index (message p.text) t)
    word-stored c t s e h f m =
        let a1 = and_parts (same (get_or s.cells tohost_cell Unknown) (word_term (get_or (message_terms c) t Unknown)) && is_known (get_or (message_terms c) t Unknown)) (nat_lt t 57) e in
        let a2 = and_parts (same (get_or s.cells tohost_cell Unknown) (word_term (get_or (message_terms c) t Unknown))) (is_known (get_or (message_terms c) t Unknown)) a1.0 in
        let cell : Is env (word_term (get_or (message_terms c) t Unknown)) (load (next given).bus.kernel tohost_place 8) = subst (λ z. Is env z (load (next given).bus.kernel tohost_place 8)) (same-path _ _ a2.0) (CellsAre-get env s.cells (next given).bus.kernel kernel_code_size tohost_cell tohost_place refl m.memory.cells_are) in
        bus_load-kernel (next given).bus tohost 8 (omega arith) ∙ value-Is env (word_term (get_or (message_terms c) t Unknown)) _ (is_known-word (get_or (message_terms c) t Unknown) a2.1) cell ∙ word-value env (get_or (message_terms c) t Unknown) a2.1
        ∙ ap console_word (values-get env (message_terms c) t ∙ ap (λ z. slice_index z t) (message_terms-message env p.text c h f))

    abbrev pub SayingIs : Bool → ℕ → Type 0
    SayingIs c t = Says p.text env × (p.text.counter ≡ c) × (p.text.posted ≡ t) × (t < 400)

    pub says-again : Says p.text env → (posted : ℕ) → Says (record p.text { posted = posted }) env
    says-again h posted = record { counter_is = h.counter_is; cause_is = h.cause_is; at_is = h.at_is; value_is = h.value_is; word_fits = h.word_fits }

    pub saying : (c : Bool) (t : ℕ) → (At given user env) (base c + 2 * t) → Links (Saying c t) p.user env → SayingIs c t → (Goal given) Speak × WordOk
    saying c t w l x = go ((moves given user env) (base c + 2 * t) w)
      where
        low : trap_words ≤ (base c + 2 * t)
        low = base-low c t

        few : t < 400
        few = x.3

        top : (base c + 2 * t) + 1 < store_gates
        top = base-top c t few

        even : (base c + 2 * t) % 2 ≡ 0
        even = base-even c t

        odd : ((base c + 2 * t) + 1) % 2 ≡ 1
        odd = let e = even in omega arith

        elsewhere : (to : ℕ) → ((next given).hart.pc == pc_put_done) ≡ false → WordOk
        elsewhere to e f = absurd (false≢true (sym e ∙ f))

        away : (n : Here kernel user env blocks (base c + 2 * t) (next given)) → ((next given).hart.pc == pc_put_done) ≡ false
        away n = ap (λ z. z == pc_put_done) n.describes.at ∙ speaks-even (base c + 2 * t) n.state low (let z = top in omega arith) even (speaks-at (base c + 2 * t) env n)

        stays : Here kernel user env blocks (base c + 2 * t) (next given) → (Goal given) Speak × WordOk
        stays n = ((land given) Speak (Saying c t) refl tt user env n l (says-again x.0 _, x.1, quiet (next given).hart.pc (away n) ∙ x.2, few), elsewhere 0 (away n))

        stored : (n : (Into given user env) (base c + 2 * t)) → n.block.kind ≡ store_gates + (base c + 2 * t) → (Goal given) Speak × WordOk
        stored n e =
            let s = n.block.start in
            let g = gate-said c t s few ((gate given user env) (base c + 2 * t) (store_gates + (base c + 2 * t)) n e) in
            let h : Here kernel user env blocks ((base c + 2 * t) + 1) (next given) = landed user env ((base c + 2 * t) + 1) s (next given) g.1 n.describes in
            let there : ((next given).hart.pc == pc_put_done) ≡ true = ap (λ z. z == pc_put_done) h.describes.at ∙ speaks-odd ((base c + 2 * t) + 1) h.state (let z = low in omega arith) top odd (speaks-at ((base c + 2 * t) + 1) env h) in
            let bound : t < 57 = let z : nat_lt t 57 ≡ true = (and_parts (same (get_or s.cells tohost_cell Unknown) (word_term (get_or (message_terms c) t Unknown)) && is_known (get_or (message_terms c) t Unknown)) (nat_lt t 57) g.0).1 in grind (arith, nat_tests) in
            let more : min (p.text.posted + 1) (2 ^ 32 - 1) ≡ t + 1 = let z = x.2 in omega arith in (
              (land given) Speak (Said c t) refl tt user env h ((relink given user env) (Saying c t) (Said c t) p.user (λ z. z) l.pc_is l.break_is l) (says-again x.0 _, x.1, rw there more, omega arith),
              λ _. word-stored c t s g.0 x.0 x.1 n.describes ∙ ap (λ z. console_word (slice_index (message p.text) z)) (sym x.2),
            )

        closes : (n : (Into given user env) (base c + 2 * t)) → n.block.kind ≡ (if c then counter_end_blocks else trap_end_blocks) → (Goal given) Speak × WordOk
        closes n e =
            let h = (enter given user env) (base c + 2 * t) (if c then counter_end_blocks else trap_end_blocks) n e in
            let last : ends_here (base c + 2 * t) ≡ true = at_last (ends_here (base c + 2 * t)) refl h in
            ((land given) Speak (Ending c) refl tt user env h ((relink given user env) (Saying c t) (Ending c) p.user (λ z. z) l.pc_is l.break_is l) (x.0, x.1, x.2 ∙ message-long env p.text c t x.0 x.1 few last), elsewhere 0 (end-away user env c (next given) h))
          where
            at_last : (b : Bool) → ends_here (base c + 2 * t) ≡ b → Here kernel user env blocks (if c then counter_end_blocks else trap_end_blocks) (next given) → ends_here (base c + 2 * t) ≡ true
            at_last true q h = q
            at_last false q h =
                absurd (false≢true (sym (end-behind user env c (next given) h) ∙ (goes-elsewhere given user env) (λ a. nat_lt a pc_close) w.state w.describes
                (closes-big (base c + 2 * t) w.state low (let z = top in omega arith) (subst (λ z. closes_ok z w.state ≡ true) w.kind (blocks_all-at closes_ok kernel blocks w.block w.state closes_right w.among w.on)) q)))

        enters : (n : (Into given user env) (base c + 2 * t)) → In n.block.kind ((base c + 2 * t) ∷ (store_gates + (base c + 2 * t)) ∷ (if c then counter_end_blocks else trap_end_blocks) ∷ []) → (Goal given) Speak × WordOk
        enters n (inl e) = stays ((enter given user env) (base c + 2 * t) (base c + 2 * t) n e)
        enters n (inr (inl e)) = stored n e
        enters n (inr (inr (inl e))) = closes n e
        enters n (inr (inr (inr e))) = absurd e

        go : Moves may_follow kernel user env blocks (base c + 2 * t) w.block w.state (next given) → (Goal given) Speak × WordOk
        go (Stays n) = stays n
        go (Goes_to n) = enters n (follow-even c t n.block.kind few n.goes)
        go (Left_open d i) = absurd ((open-never given user env) (base c + 2 * t) w (shut (base c + 2 * t) w.state low (let z = top in omega arith)) d)

    pub said : (c : Bool) (t : ℕ) → (At given user env) (base c + 2 * t + 1) → Links (Said c t) p.user env → Says p.text env × (p.text.counter ≡ c) × (p.text.posted ≡ t + 1) × (t + 1 < 400) → (Goal given) Speak × WordOk
    said c t w l x = go ((moves given user env) (base c + 2 * t + 1) w)
      where
        low : trap_words ≤ (base c + 2 * t + 1)
        low = let z = base-low c t in omega arith

        top : (base c + 2 * t + 1) + 1 < store_gates
        top = let z = base-top c (t + 1) x.3 in let e : base c + 2 * (t + 1) ≡ (base c + 2 * t + 1) + 1 = omega arith in omega arith

        odd : (base c + 2 * t + 1) % 2 ≡ 1
        odd = let e = base-even c t in omega arith

        away : ((next given).hart.pc == pc_put_done) ≡ false
        away = not-false _ ((goes-elsewhere given user env) (λ a. not (a == pc_put_done)) w.state w.describes (leads-odd (base c + 2 * t + 1) w.state low (let z = top in omega arith) odd (subst (λ z. leads_ok z w.state ≡ true) w.kind (blocks_all-at leads_ok kernel blocks w.block w.state leads_right w.among w.on))))

        stays : Here kernel user env blocks (base c + 2 * t + 1) (next given) → (Goal given) Speak × WordOk
        stays n = absurd (false≢true (sym away ∙ ap (λ z. z == pc_put_done) n.describes.at ∙ speaks-odd (base c + 2 * t + 1) n.state low (let z = top in omega arith) odd (speaks-at (base c + 2 * t + 1) env n)))

        goes : (n : (Into given user env) (base c + 2 * t + 1)) → n.block.kind ≡ (base c + 2 * t + 1) + 1 → (Goal given) Speak × WordOk
        goes n e =
            let q : (base c + 2 * t + 1) + 1 ≡ base c + 2 * (t + 1) = omega arith in
            let h : Here kernel user env blocks (base c + 2 * (t + 1)) (next given) = subst (λ z. Here kernel user env blocks z (next given)) q ((enter given user env) (base c + 2 * t + 1) ((base c + 2 * t + 1) + 1) n e) in
            ((land given) Speak (Saying c (t + 1)) refl tt user env h ((relink given user env) (Said c t) (Saying c (t + 1)) p.user (λ z. z) l.pc_is l.break_is l) (says-again x.0 _, x.1, quiet (next given).hart.pc away ∙ x.2, x.3), λ f. absurd (false≢true (sym away ∙ f)))

        enters : (n : (Into given user env) (base c + 2 * t + 1)) → In n.block.kind (((base c + 2 * t + 1) + 1) ∷ []) → (Goal given) Speak × WordOk
        enters n (inl e) = goes n e
        enters n (inr e) = absurd e

        go : Moves may_follow kernel user env blocks (base c + 2 * t + 1) w.block w.state (next given) → (Goal given) Speak × WordOk
        go (Stays n) = stays n
        go (Goes_to n) = enters n (follow-odd (base c + 2 * t + 1) n.block.kind low odd n.goes)
        go (Left_open d i) = absurd ((open-never given user env) (base c + 2 * t + 1) w (shut (base c + 2 * t + 1) w.state low (let z = top in omega arith)) d)

    pub closing : (k j : ℕ) (st to : Stage) → stage_kind st ≡ Closing → stage_kind to ≡ Closing → followers k ≡ k ∷ j ∷ [] → is_open k ≡ false → (At given user env) k → (Here kernel user env blocks k (next given) → (Goal given) Closing) → (Here kernel user env blocks j (next given) → (Goal given) Closing) → (Goal given) Closing
    closing k j st to a b fol shut_k w stays last = go ((moves given user env) k w)
      where
        enters : (n : (Into given user env) k) → In n.block.kind (k ∷ j ∷ []) → (Goal given) Closing
        enters n (inl e) = stays ((enter given user env) k k n e)
        enters n (inr (inl e)) = last ((enter given user env) k j n e)
        enters n (inr (inr e)) = absurd e

        go : Moves may_follow kernel user env blocks k w.block w.state (next given) → (Goal given) Closing
        go (Stays n) = stays n
        go (Goes_to n) = enters n (member-In n.block.kind (k ∷ j ∷ []) (subst (λ z. member n.block.kind z ≡ true) fol n.goes))
        go (Left_open c i) = absurd ((open-never given user env) k w shut_k c)

    pub ended : (k : ℕ) → followers k ≡ k ∷ [] → is_open k ≡ false → (At given user env) k → (Here kernel user env blocks k (next given) → (Goal given) Closing) → (Goal given) Closing
    ended k fol shut_k w stays = go ((moves given user env) k w)
      where
        enters : (n : (Into given user env) k) → In n.block.kind (k ∷ []) → (Goal given) Closing
        enters n (inl e) = stays ((enter given user env) k k n e)
        enters n (inr e) = absurd e

        go : Moves may_follow kernel user env blocks k w.block w.state (next given) → (Goal given) Closing
        go (Stays n) = stays n
        go (Goes_to n) = enters n (member-In n.block.kind (k ∷ []) (subst (λ z. member n.block.kind z ≡ true) fol n.goes))
        go (Left_open c i) = absurd ((open-never given user env) k w shut_k c)
