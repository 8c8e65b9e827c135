-- Steps in Fill, Wait and Take.
use Rattle.std.proofs.Common.{◌≡◌, ◌≢◌, ℕ, ◌+◌, ◌-◌, ◌*◌, ◌==◌, true, false, ◌&&◌, ◌||◌, inl, inr, Option, Some, None, List, [], ◌∷◌, get_or, refl, ap, sym, subst, ◌∙◌, arith, if◌then◌else◌}
use Rattle.std.specs.Prelude.{slice_index, not}
use Rattle.std.proofs.lemmas.Bool.{false≢true, eqb-true, eqb-false, and_parts}
use Rattle.fe_base.specs.MemoryMap.{kernel_start, kernel_code_size, request, tohost, fromhost}
use Rattle.guest_memory.proofs.AreaLemmas.{bus_load-kernel}
use Rattle.rv_hart.specs.HartStep.{System, AreRegisters, hart_step}
use Rattle.guest_memory.specs.Memory.{load}
use Rattle.guest_memory.specs.Bus.{IsBus}
use Rattle.guest_memory.specs.Bus.{bus_load}
use Rattle.kernel_sim.specs.declared.phase.PhaseKind.TheVariants.{Fill, Wait, Take, Restore}
use Rattle.kernel_sim.specs.declared.phase.Phase.{Phase}
use Rattle.kernel_steps.specs.Terms.{Term, Lit, Var, Unknown, Is}
use Rattle.kernel_steps.specs.States.{State, Describes}
use Rattle.kernel_steps.specs.Successors.{reg}
use Rattle.kernel_steps.specs.Blocks.{test, step_at, Moves, Stays, Goes_to, Left_open, same, has_fact}
use Rattle.kernel_code.specs.Kinds.{may_follow}
use Rattle.kernel_code.specs.Kernel.{kernel, blocks}
use Rattle.plain_machine.specs.KernelPart.{posts, scans, path_request, kernel_part}
use Rattle.kernel_sim.proofs.Told.{Told}
use Rattle.kernel_sim.proofs.PartLaws.{part-is}
use Rattle.kernel_sim.specs.Phases.{request_of}
use Rattle.kernel_sim.specs.Stages.{Found, Filling, Waiting, Tested, Taking, Restoring, direct, part, WasAsked, Links}
use Rattle.kernel_steps.proofs.Soundness.{CellsAre-get}
use Rattle.kernel_steps.proofs.GraphLaws.{stepped, same-path, has_fact-holds}
use Rattle.kernel_steps.proofs.Rebase.{with_var, state_avoids, fresh, learn_cell}
use Rattle.kernel_steps.proofs.Tests.{In, member-In, blocks_all-at, starts-at}
use Rattle.kernel_sim.proofs.Gates.{keeps_break, cell_of, has_posted, posts_call, posts_ok, posts_right, begins_ok, begins_right, speaks_ok, speaks_right, leads_ok, leads_right, open_ok, opens-at, landed, lands, set_cell, no_facts, fill_at, filled, restores, fact}
use Rattle.kernel_code.specs.Numbers.{filling_blocks, waiting_blocks, taking_blocks, v_break, tested_blocks, v_word0, v_word1, v_word2, v_word3, v_word4, v_word5, v_length, found_blocks, v_result, taken_gate, path_request_gate, v_fromhost, answer_gate}
use Rattle.kernel_code.specs.Places.{pc_wait_test, request_cell, request_place, tohost_cell, pc_wait, fromhost_place, fromhost_cell}
use Rattle.kernel_sim.proofs.PathLaws.{or-elim, eight-fits, not-false}
use Rattle.kernel_sim.proofs.TrapLaws.{forget-facts}
use Rattle.kernel_sim.proofs.StageLaws.{Setting, next, Goal, land, At, Into, moves, enter, gate, open-never, relink, relink_with, kept_above, goes-elsewhere, goes-with, env6, fill-describes, links6, list6, reg-is}
use Rattle.kernel_sim.proofs.AnswerLaws.{env_r, cell-fits, restore-here, break-now, restore-links, first, second, reg10, break-is}

module _ (given : Setting) where
  abbrev p : Phase
  p = given.phase

  abbrev sys : System
  sys = given.system

  abbrev fit : AreRegisters sys.hart.registers
  fit = given.fit

  abbrev fit_next : AreRegisters (hart_step sys).hart.registers
  fit_next = given.fit_next

  abbrev whole : IsBus sys.bus
  whole = given.whole

  abbrev whole_next : IsBus (hart_step sys).bus
  whole_next = given.whole_next

  module _ (user : List ℕ) (env : ℕ → ℕ) where
    pub take-told : Links Taking p.user env → (s : State) → ((same (reg s 10) (Var v_result) && same (cell_of s request_cell) (Var v_result) && keeps_break s) && restores s) ≡ true → Describes kernel user env s (next given) → Told Take Restore p sys (next given)
    take-told l s e m =
        let h = and_parts (same (reg s 10) (Var v_result) && same (cell_of s request_cell) (Var v_result)) (keeps_break s) ((first given user env) (same (reg s 10) (Var v_result) && same (cell_of s request_cell) (Var v_result) && keeps_break s) (restores s) e) in
        let a = and_parts (same (reg s 10) (Var v_result)) (same (cell_of s request_cell) (Var v_result)) h.0 in
        let c : load (next given).bus.kernel request_place 8 ≡ env v_result = subst (λ z. Is env z (load (next given).bus.kernel request_place 8)) (same-path (cell_of s request_cell) (Var v_result) a.1) (CellsAre-get env s.cells (next given).bus.kernel kernel_code_size request_cell request_place refl m.memory.cells_are) in
        ((reg10 given user env) s (Var v_result) a.0 m ∙ sym c ∙ sym (bus_load-kernel (next given).bus request 8 (omega arith)), (break-now given user env) ∙ (break-is given user env) s (Var v_break) h.1 m ∙ sym l.break_is)

    pub taking : (At given user env) taking_blocks → Links Taking p.user env → WasAsked env → (Goal given) Take
    taking w l x = go ((moves given user env) taking_blocks w)
      where
        leaves : (n : (Into given user env) taking_blocks) → n.block.kind ≡ taken_gate → (Goal given) Take
        leaves n e = (land given) Take Restoring refl (take-told l n.block.start ((gate given user env) taking_blocks taken_gate n e) n.describes) user (env_r given user env) ((restore-here given user env) n.block.start ((second given user env) (same (reg n.block.start 10) (Var v_result) && same (cell_of n.block.start request_cell) (Var v_result) && keeps_break n.block.start) _ ((gate given user env) taking_blocks taken_gate n e)) n.describes) ((restore-links given user env) Taking p.user _ (λ z. z) (break-now given user env) l.pc_is l) tt

        enters : (n : (Into given user env) taking_blocks) → In n.block.kind (taken_gate ∷ []) → (Goal given) Take
        enters n (inl e) = leaves n e
        enters n (inr e) = absurd e

        go : Moves may_follow kernel user env blocks taking_blocks w.block w.state (next given) → (Goal given) Take
        go (Stays n) = (land given) Take Taking refl tt user env n l x
        go (Goes_to n) = enters n (member-In n.block.kind (taken_gate ∷ []) n.goes)
        go (Left_open c i) = absurd ((open-never given user env) taking_blocks w refl c)

    pub found : (At given user env) found_blocks → Links Found p.user env → (direct env ≡ scans) × (part env user ≡ posts (path_request (env 17) (env 10) (env 11) (env v_length) (env 12) (env 13))) → (Goal given) Fill
    found w l x = go ((moves given user env) found_blocks w)
      where
        fourth : (s : State) → Describes kernel user env s (next given) → ((same (reg s 14) (Var 13) && has_fact (fact false (Var 17) (Lit 56) true) s.facts) || (same (reg s 14) (Lit 0) && has_fact (fact false (Var 17) (Lit 56) false) s.facts)) ≡ true
            → (if env 17 == 56 then env 13 else 0) ≡ slice_index (next given).hart.registers 14
        fourth s m e = or-elim _ _ e
            (λ q. let r = and_parts _ _ q in let f = has_fact-holds env (fact false (Var 17) (Lit 56) true) s.facts r.1 m.facts in let v = (reg-is given user env) s 14 (Var 13) r.0 m in rw f (sym v))
            (λ q. let r = and_parts _ _ q in let f = has_fact-holds env (fact false (Var 17) (Lit 56) false) s.facts r.1 m.facts in let v = (reg-is given user env) s 14 (Lit 0) r.0 m in rw f (sym v))

        fills : (n : (Into given user env) found_blocks) → n.block.kind ≡ path_request_gate → (Goal given) Fill
        fills n e =
            let s = n.block.start in
            let m = n.describes in
            let t1 = and_parts _ _ ((gate given user env) found_blocks path_request_gate n e) in
            let t2 = and_parts _ _ t1.0 in
            let t3 = and_parts _ _ t2.0 in
            let a1 = and_parts _ _ t3.0 in
            let a2 = and_parts _ _ a1.0 in
            let a3 = and_parts _ _ a2.0 in
            let a4 = and_parts _ _ a3.0 in
            let a5 = and_parts _ _ a4.0 in
            (land given) Fill Filling refl tt user (env6 given user env) (landed user (env6 given user env) filling_blocks (filled (fill_at s)) (next given) t1.1 ((fill-describes given user env) s t3.1 t2.1 m)) ((links6 given user env) Found Filling p.user (λ z. z) refl l.pc_is l.break_is l)
            (x.1 ∙ (list6 given user env) _ _ _ _ _ _ _ _ _ _ _ _ (sym ((reg-is given user env) s 17 (Var 17) a5.0 m)) (sym ((reg-is given user env) s 10 (Var 10) a5.1 m)) (sym ((reg-is given user env) s 11 (Var 11) a4.1 m)) (sym ((reg-is given user env) s 12 (Var v_length) a3.1 m)) (sym ((reg-is given user env) s 13 (Var 12) a2.1 m)) (fourth s m a1.1))

        enters : (n : (Into given user env) found_blocks) → In n.block.kind (path_request_gate ∷ found_blocks ∷ []) → (Goal given) Fill
        enters n (inl e) = fills n e
        enters n (inr (inl e)) = (land given) Fill Found refl tt user env ((enter given user env) found_blocks found_blocks n e) l x
        enters n (inr (inr e)) = absurd e

        go : Moves may_follow kernel user env blocks found_blocks w.block w.state (next given) → (Goal given) Fill
        go (Stays n) = (land given) Fill Found refl tt user env n l x
        go (Goes_to n) = enters n (member-In n.block.kind (path_request_gate ∷ found_blocks ∷ []) n.goes)
        go (Left_open c i) = absurd ((open-never given user env) found_blocks w refl c)

    pub cell-now : (t : State) (c at : ℕ) (v : Term) → at ≡ tohost + 8 * c → same (cell_of t c) v ≡ true → Describes kernel user env t (next given) → Is env v (bus_load (next given).bus at 8)
    cell-now t c at v e q m =
        subst (λ z. Is env v z) (sym (bus_load-kernel (next given).bus at 8 (omega arith)))
        (subst (λ z. Is env z (load (next given).bus.kernel (at - kernel_start) 8)) (same-path (cell_of t c) v q) (CellsAre-get env t.cells (next given).bus.kernel kernel_code_size c (at - kernel_start) (omega arith) m.memory.cells_are))

    pub posted-cells : (t : State) (a b c d e f : Term) → has_posted t a b c d e f ≡ true → Describes kernel user env t (next given)
        → Is env (Lit request) (bus_load (next given).bus tohost 8) × Is env a (bus_load (next given).bus request 8) × Is env b (bus_load (next given).bus (request + 8) 8) × Is env c (bus_load (next given).bus (request + 16) 8) × Is env d (bus_load (next given).bus (request + 24) 8) × Is env e (bus_load (next given).bus (request + 32) 8) × Is env f (bus_load (next given).bus (request + 40) 8) × Is env (Lit 0) (bus_load (next given).bus (request + 48) 8) × Is env (Lit 0) (bus_load (next given).bus (request + 56) 8)
    posted-cells t a b c d e f q m =
        let q1 = and_parts (same (cell_of t tohost_cell) (Lit request)) _ q in
        let q2 = and_parts (same (cell_of t request_cell) a) _ q1.1 in
        let q3 = and_parts (same (cell_of t (request_cell + 1)) b) _ q2.1 in
        let q4 = and_parts (same (cell_of t (request_cell + 2)) c) _ q3.1 in
        let q5 = and_parts (same (cell_of t (request_cell + 3)) d) _ q4.1 in
        let q6 = and_parts (same (cell_of t (request_cell + 4)) e) _ q5.1 in
        let q7 = and_parts (same (cell_of t (request_cell + 5)) f) _ q6.1 in
        let q8 = and_parts (same (cell_of t (request_cell + 6)) (Lit 0)) _ q7.1 in (
          cell-now t tohost_cell tohost (Lit request) refl q1.0 m,
          cell-now t request_cell request a refl q2.0 m,
          cell-now t (request_cell + 1) (request + 8) b refl q3.0 m,
          cell-now t (request_cell + 2) (request + 16) c refl q4.0 m,
          cell-now t (request_cell + 3) (request + 24) d refl q5.0 m,
          cell-now t (request_cell + 4) (request + 32) e refl q6.0 m,
          cell-now t (request_cell + 5) (request + 40) f refl q7.0 m,
          cell-now t (request_cell + 6) (request + 48) (Lit 0) refl q8.0 m,
          cell-now t (request_cell + 7) (request + 56) (Lit 0) refl q8.1 m,
        )

    pub words8 : {a b c d e f g h : ℕ}
        → bus_load (next given).bus request 8 ≡ a → bus_load (next given).bus (request + 8) 8 ≡ b → bus_load (next given).bus (request + 16) 8 ≡ c → bus_load (next given).bus (request + 24) 8 ≡ d → bus_load (next given).bus (request + 32) 8 ≡ e → bus_load (next given).bus (request + 40) 8 ≡ f → bus_load (next given).bus (request + 48) 8 ≡ g → bus_load (next given).bus (request + 56) 8 ≡ h
        → request_of (next given).bus ≡ a ∷ b ∷ c ∷ d ∷ e ∷ f ∷ g ∷ h ∷ []
    words8 p1 p2 p3 p4 p5 p6 p7 p8 = rw (p1, p2, p3, p4, p5, p6, p7, p8) refl

    abbrev pub Posted : Type 0
    Posted = part env user ≡ posts (env v_word0 ∷ env v_word1 ∷ env v_word2 ∷ env v_word3 ∷ env v_word4 ∷ env v_word5 ∷ 0 ∷ 0 ∷ [])

    pub filling : (At given user env) filling_blocks → Links Filling p.user env → Posted → (Goal given) Fill
    filling w l x = go ((moves given user env) filling_blocks w)
      where
        posts-told : (n : (Into given user env) filling_blocks) → n.block.kind ≡ waiting_blocks → Told Fill Wait p sys (next given)
        posts-told n e =
            let here : (next given).hart.pc ≡ pc_wait = n.describes.at ∙ eqb-true n.block.start.at pc_wait (subst (λ z. begins_ok z n.block.start ≡ true) e (starts-at begins_ok blocks n.block begins_right n.among)) in
            let t = (goes-with given user env) posts_call w.state w.describes (subst (λ z. posts_ok z w.state ≡ true) w.kind (blocks_all-at posts_ok kernel blocks w.block w.state posts_right w.among w.on)) in
            let q = or-elim (not (t.0.at == pc_wait)) (has_posted t.0 (Var v_word0) (Var v_word1) (Var v_word2) (Var v_word3) (Var v_word4) (Var v_word5)) t.1 (λ z. absurd (eqb-false t.0.at pc_wait (not-false _ z) (sym t.2.at ∙ here))) (λ z. z) in
            let r = posted-cells t.0 (Var v_word0) (Var v_word1) (Var v_word2) (Var v_word3) (Var v_word4) (Var v_word5) q t.2 in
            (subst (λ z. kernel_part p.user.regs z p.user.brk p.user.first_break ≡ posts (request_of (next given).bus)) (sym w.describes.memory.user_is) (sym (part-is Filling p.user env user l l.break_is) ∙ x ∙ ap posts (sym (words8 r.1 r.2 r.3 r.4 r.5 r.6 r.7 r.8))), r.0)

        enters : (n : (Into given user env) filling_blocks) → In n.block.kind (waiting_blocks ∷ []) → (Goal given) Fill
        enters n (inl e) = (land given) Fill Waiting refl (posts-told n e) user env ((enter given user env) filling_blocks waiting_blocks n e) ((relink given user env) Filling Waiting p.user (λ z. z) l.pc_is l.break_is l) (user, x)
        enters n (inr e) = absurd e

        go : Moves may_follow kernel user env blocks filling_blocks w.block w.state (next given) → (Goal given) Fill
        go (Stays n) = (land given) Fill Filling refl tt user env n l x
        go (Goes_to n) = enters n (member-In n.block.kind (waiting_blocks ∷ []) n.goes)
        go (Left_open c i) = absurd ((open-never given user env) filling_blocks w refl c)

    pub waiting : (At given user env) waiting_blocks → Links Waiting p.user env → WasAsked env → (Goal given) Wait
    waiting w l x = go ((moves given user env) waiting_blocks w)
      where
        peeks : (u : State) → Describes kernel user env u sys → open_ok waiting_blocks u ≡ true → (Goal given) Wait
        peeks u m t0 =
            let t = and_parts _ _ t0 in
            let v = load sys.bus.kernel fromhost_place 8 in
            let to : ℕ → ℕ = with_var env v_fromhost v in
            let m1 = fresh env v_fromhost v kernel user u sys t.0 (eight-fits sys.bus.kernel fromhost_place whole.kernel_bytes) m in
            let m2 = learn_cell kernel user to u sys fromhost_cell fromhost_place (Var v_fromhost) refl refl m1 in
            after (step_at kernel (set_cell u fromhost_cell (Var v_fromhost))) refl t.1 m2
          where
            after : (o : Option State) → step_at kernel (set_cell u fromhost_cell (Var v_fromhost)) ≡ o → test o (λ t. same (get_or t.cells fromhost_cell Unknown) (Var v_fromhost) && lands tested_blocks t) ≡ true → Describes kernel user (with_var env v_fromhost (load sys.bus.kernel fromhost_place 8)) (set_cell u fromhost_cell (Var v_fromhost)) sys → (Goal given) Wait
            after None e f m2 = absurd (false≢true f)
            after (Some t) e f m2 =
                let to : ℕ → ℕ = with_var env v_fromhost (load sys.bus.kernel fromhost_place 8) in
                let m3 = stepped kernel user to may_follow blocks sys fit (set_cell u fromhost_cell (Var v_fromhost)) t e m2 in
                let g = and_parts _ _ f in
                let held : load (next given).bus.kernel fromhost_place 8 ≡ to v_fromhost = subst (λ z. Is to z (load (next given).bus.kernel fromhost_place 8)) (same-path (get_or t.cells fromhost_cell Unknown) (Var v_fromhost) g.0) (CellsAre-get to t.cells (next given).bus.kernel kernel_code_size fromhost_cell fromhost_place refl m3.memory.cells_are) in
                (land given) Wait Tested refl tt user to (landed user to tested_blocks t (next given) g.1 m3) ((relink_with given user env) to Waiting Tested p.user (λ n j. (kept_above given user env) v_fromhost _ n (omega arith) j) (λ z. z) l.pc_is l.break_is l)
                (x, λ ne z. ne (sym held ∙ sym (bus_load-kernel (next given).bus fromhost 8 (omega arith)) ∙ z))

        enters : (n : (Into given user env) waiting_blocks) → In n.block.kind [] → (Goal given) Wait
        enters n e = absurd e

        go : Moves may_follow kernel user env blocks waiting_blocks w.block w.state (next given) → (Goal given) Wait
        go (Stays n) = (land given) Wait Waiting refl tt user env n l x
        go (Goes_to n) = enters n (member-In n.block.kind [] n.goes)
        go (Left_open c i) = peeks w.state w.describes (subst (λ z. open_ok z w.state ≡ true) w.kind (opens-at w.block w.state w.among c i))

    pub tested : (At given user env) tested_blocks → Links Tested p.user env → WasAsked env × (env v_fromhost ≢ 0 → p.fromhost ≢ 0) → (Goal given) Wait
    tested w l x = go ((moves given user env) tested_blocks w)
      where
        takes : (n : (Into given user env) tested_blocks) → n.block.kind ≡ answer_gate → (Goal given) Wait
        takes n e =
            let s = n.block.start in
            let t = and_parts _ _ ((gate given user env) tested_blocks answer_gate n e) in
            let v = load (next given).bus.kernel request_place 8 in
            let to : ℕ → ℕ = with_var env v_result v in
            let t2 = and_parts (has_fact (fact false (Var v_fromhost) (Lit 0) false) s.facts) (state_avoids v_result s) t.0 in
            let m1 = fresh env v_result v kernel user s (next given) t2.1 ((cell-fits given user env) request_place) n.describes in
            let m2 = learn_cell kernel user to s (next given) request_cell request_place (Var v_result) refl refl m1 in
            let m3 = forget-facts kernel user to (set_cell s request_cell (Var v_result)) (next given) m2 in
            (land given) Wait Taking refl (x.1 (eqb-false (env v_fromhost) 0 (has_fact-holds env (fact false (Var v_fromhost) (Lit 0) false) s.facts t2.0 n.describes.facts))) user to (landed user to taking_blocks (set_cell (no_facts s) request_cell (Var v_result)) (next given) t.1 m3) ((relink_with given user env) to Tested Taking p.user (λ n j. (kept_above given user env) v_result v n (omega arith) j) (λ z. z) l.pc_is l.break_is l) x.0

        enters : (n : (Into given user env) tested_blocks) → In n.block.kind (waiting_blocks ∷ answer_gate ∷ []) → (Goal given) Wait
        enters n (inl e) = (land given) Wait Waiting refl tt user env ((enter given user env) tested_blocks waiting_blocks n e) ((relink given user env) Tested Waiting p.user (λ z. z) l.pc_is l.break_is l) x.0
        enters n (inr (inl e)) = takes n e
        enters n (inr (inr e)) = absurd e

        go : Moves may_follow kernel user env blocks tested_blocks w.block w.state (next given) → (Goal given) Wait
        go (Stays n) = absurd (false≢true (sym (not-false _ ((goes-elsewhere given user env) (λ a. not (a == pc_wait_test)) w.state w.describes (subst (λ z. leads_ok z w.state ≡ true) w.kind (blocks_all-at leads_ok kernel blocks w.block w.state leads_right w.among w.on)))) ∙ ap (λ z. z == pc_wait_test) n.describes.at ∙ subst (λ z. speaks_ok z n.state ≡ true) n.kind (blocks_all-at speaks_ok kernel blocks n.block n.state speaks_right n.among n.on)))
        go (Goes_to n) = enters n (member-In n.block.kind (waiting_blocks ∷ answer_gate ∷ []) n.goes)
        go (Left_open c i) = absurd ((open-never given user env) tested_blocks w refl c)
