-- Steps in Scan.
use Rattle.std.proofs.Common.{below_more, ◌≡◌, pos, ℕ, ◌+◌, ◌-◌, ◌%◌, ◌^◌, ◌<◌, ◌≤◌, ◌==◌, Bool, true, false, inl, inr, None, List, [], ◌∷◌, set, refl, ap, sym, subst, ◌∙◌, arith, if◌then◌else◌}
use Rattle.std.specs.Prelude.{slice_index, not, min}
use Rattle.std.proofs.lemmas.Bool.{false≢true, eqb-true, eqb-false, and_parts}
use Rattle.std.proofs.lemmas.Bool.Decides.{nat_tests}
use Rattle.rv_decode.specs.declared.instruction.Insn.TheVariants.{Lbu}
use Rattle.rv_alu.specs.Effects.{effect_of, put}
use Rattle.rv_csr.specs.declared.privilege.Access.TheVariants.{Read}
use Rattle.rv_csr.specs.declared.privilege.Mode.TheVariants.{Machine}
use Rattle.fe_base.specs.MemoryMap.{user_start, user_end}
use Rattle.rv_hart.specs.Accesses.{refused_byte}
use Rattle.rv_hart.specs.HartStep.{System, AreRegisters, hart_step, over, effect_step}
use Rattle.guest_memory.specs.Bus.{IsBus}
use Rattle.kernel_sim.specs.declared.phase.PhaseKind.TheVariants.{Scan}
use Rattle.kernel_sim.specs.declared.phase.Phase.{Phase}
use Rattle.kernel_steps.specs.Terms.{Lit, Var, Is}
use Rattle.kernel_steps.specs.States.{State, Describes}
use Rattle.kernel_steps.specs.Successors.{reg, fetch, successors}
use Rattle.kernel_steps.specs.Blocks.{test, Here, Moves, Stays, Goes_to, Left_open, same, has_fact}
use Rattle.kernel_code.specs.Kinds.{may_follow}
use Rattle.kernel_code.specs.Kernel.{kernel, blocks}
use Rattle.plain_machine.specs.KernelPart.{posts, scans, scan, ends, leaves, is_long, user_byte, path_request}
use Rattle.plain_machine.specs.UserStep.{is_user}
use Rattle.kernel_sim.specs.Stages.{Passed, Starting, Scanning, Looked, Past, Full, Found, Outside, Long, direct, part, ScanIs, ByteIs, Links}
use Rattle.kernel_steps.proofs.Soundness.{carried, wrote, fetched, AllIs-get}
use Rattle.kernel_steps.proofs.GraphLaws.{implies-Describes, same-path, has_fact-holds}
use Rattle.kernel_steps.proofs.Rebase.{with_var, fresh, learn_reg}
use Rattle.kernel_steps.proofs.Tests.{In, member-In, blocks_all-at, starts-at}
use Rattle.kernel_sim.proofs.Gates.{passes_ok, passes_right, all_at, leads_ok, leads_right, open_ok, opens-at, landed, set_reg, next_again, found_at, fact, one_more, byte_at}
use Rattle.kernel_code.specs.Numbers.{scanning_blocks, passed_blocks, full_blocks, v_byte, starting_blocks, outside_blocks, first_byte_gate, v_scanned, path_outside_gate, looked_blocks, path_end_gate, v_length, found_blocks, next_byte_gate, path_long_gate, long_blocks}
use Rattle.kernel_code.specs.Places.{pc_path_load, pc_path_passed, pc_path_loaded}
use Rattle.kernel_sim.proofs.PlaceLaws.{high, low-kept, starts_speak, speak_right}
use Rattle.kernel_sim.proofs.PathLaws.{scan-long, scan-leaves_at, scan-ends_at, scan-on_at, scan-result, or-elim, user-reach, user-load, lbu-there, not-false}
use Rattle.kernel_sim.proofs.StageLaws.{Setting, next, Goal, land, At, Into, moves, enter, gate, open-never, relink, relink_with, kept_above, part-scans, goes-elsewhere, not-passed_in, same-count}

module _ (given : Setting) where
  abbrev p : Phase
  p = given.phase

  abbrev sys : System
  sys = given.system

  abbrev fit : AreRegisters sys.hart.registers
  fit = given.fit

  abbrev fit_next : AreRegisters (hart_step sys).hart.registers
  fit_next = given.fit_next

  abbrev whole : IsBus sys.bus
  whole = given.whole

  abbrev whole_next : IsBus (hart_step sys).bus
  whole_next = given.whole_next

  module _ (user : List ℕ) (env : ℕ → ℕ) where
    pub starting : (At given user env) starting_blocks → Links Starting p.user env → (direct env ≡ scans) × (p.scanned ≡ 0) → (Goal given) Scan
    starting w l x = go ((moves given user env) starting_blocks w)
      where
        first : (n : (Into given user env) starting_blocks) → n.block.kind ≡ first_byte_gate → (Goal given) Scan
        first n e =
            let s = n.block.start in
            let t = and_parts _ _ ((gate given user env) starting_blocks first_byte_gate n e) in
            let t2 = and_parts _ _ t.0 in
            let to : ℕ → ℕ = with_var env v_scanned 0 in
            let zero_is : slice_index (next given).hart.registers 28 ≡ 0 = subst (λ z. Is env z (slice_index (next given).hart.registers 28)) (same-path (reg s 28) (Lit 0) t2.0) (AllIs-get env s.regs (next given).hart.registers 28 n.describes.regs) in
            let m = learn_reg kernel user to s (next given) 28 (Var v_scanned) zero_is (fresh env v_scanned 0 kernel user s (next given) t2.1 (omega arith) n.describes) in
            let h = landed user to scanning_blocks (set_reg s 28 (Var v_scanned)) (next given) t.1 m in
            (land given) Scan Scanning refl tt user to h
            (record { regs_are = λ k j. low-kept env v_scanned 0 k (omega arith) ∙ l.regs_are k j; count = l.count; zeroth = l.zeroth; pc_is = l.pc_is; pc_even = l.pc_even; first_is = l.first_is; break_is = l.break_is; cause_is = l.cause_is })
            (record { has_path = x.0; goes_on = refl; below = omega arith; passed = λ k j. absurd (omega arith) }, (same-count given user env) (next given).hart.pc ((not-passed_in given user env) to scanning_blocks refl h) ∙ x.1)

        enters : (n : (Into given user env) starting_blocks) → In n.block.kind (first_byte_gate ∷ []) → (Goal given) Scan
        enters n (inl e) = first n e
        enters n (inr e) = absurd e

        go : Moves may_follow kernel user env blocks starting_blocks w.block w.state (next given) → (Goal given) Scan
        go (Stays n) = (land given) Scan Starting refl tt user env n l (x.0, (same-count given user env) (next given).hart.pc ((not-passed_in given user env) env starting_blocks refl n) ∙ x.1)
        go (Goes_to n) = enters n (member-In n.block.kind (first_byte_gate ∷ []) n.goes)
        go (Left_open c i) = absurd ((open-never given user env) starting_blocks w refl c)

    pub byte-done : (bits at : ℕ) → slice_index sys.hart.registers 5 ≡ at → sys.hart.mode ≡ Machine → user_start ≤ at → at < user_end
        → carried (effect_of (Lbu 5 5 (pos 0)) sys.hart.pc sys.hart.registers) bits ((sys.hart.pc + 4) % 2 ^ 64) sys
        ≡ over sys.bus (record sys.hart { pc = (sys.hart.pc + 4) % 2 ^ 64; registers = put sys.hart.registers 5 (user_byte sys.bus.user at) })
    unfolding effect_of effect_step
    byte-done bits at x5 mode low high =
        let a : (slice_index sys.hart.registers 5 + 0) % 2 ^ 64 ≡ at = omega arith in
        let free : refused_byte sys.hart.csrs sys.hart.mode Read at 1 ≡ None = ap (λ m. refused_byte sys.hart.csrs m Read at 1) mode ∙ user-reach sys.hart.csrs at low high in
        rw (a, free, user-load sys.bus at low high) refl

    pub byte-step : (u : State) (m : Describes kernel user env u sys) → u.at ≡ pc_path_load → (at : ℕ) → slice_index sys.hart.registers 5 ≡ at → user_start ≤ at → at < user_end
        → (next given) ≡ over sys.bus (record sys.hart { pc = (sys.hart.pc + 4) % 2 ^ 64; registers = put sys.hart.registers 5 (user_byte sys.bus.user at) })
    byte-step u m here at x5 low high = fetched kernel user env u sys m fit (Lbu 5 5 (pos 0)) (ap (λ z. fetch kernel z) here ∙ lbu-there) ∙ byte-done _ at x5 m.mode low high

    abbrev pub path_at : ℕ
    path_at = (env 11 + env v_scanned) % 2 ^ 64

    pub scanning : (At given user env) scanning_blocks → Links Scanning p.user env → ScanIs user env × (p.scanned ≡ env v_scanned) → (Goal given) Scan
    scanning w l x = go ((moves given user env) scanning_blocks w)
      where
        stays : Here kernel user env blocks scanning_blocks (next given) → (Goal given) Scan
        stays n = (land given) Scan Scanning refl tt user env n l (x.0, (same-count given user env) (next given).hart.pc ((not-passed_in given user env) env scanning_blocks refl n) ∙ x.1)

        beyond : (n : (Into given user env) scanning_blocks) → n.block.kind ≡ path_outside_gate → (Goal given) Scan
        beyond n e =
            let s = n.block.start in
            let t = and_parts _ _ ((gate given user env) scanning_blocks path_outside_gate n e) in
            let out : is_user path_at ≡ false = or-elim _ _ t.0
            (λ q. let f = has_fact-holds env (fact true byte_at (Lit 65536) true) s.facts q n.describes.facts in grind (arith, nat_tests))
            (λ q. let f = has_fact-holds env (fact true byte_at (Lit 16842752) false) s.facts q n.describes.facts in grind (arith, nat_tests)) in
            (land given) Scan Outside refl tt user env (landed user env outside_blocks s (next given) t.1 n.describes) ((relink given user env) Scanning Outside p.user (λ z. z) l.pc_is l.break_is l)
            ((part-scans given user env) x.0.has_path ∙ scan-result env user leaves (x.0.goes_on ∙ scan-leaves_at user (env 11) (env v_scanned) x.0.below out))

        enters : (n : (Into given user env) scanning_blocks) → In n.block.kind (scanning_blocks ∷ path_outside_gate ∷ []) → (Goal given) Scan
        enters n (inl e) = stays ((enter given user env) scanning_blocks scanning_blocks n e)
        enters n (inr (inl e)) = beyond n e
        enters n (inr (inr e)) = absurd e

        looks : (u : State) → Describes kernel user env u sys → open_ok scanning_blocks u ≡ true → (Goal given) Scan
        looks u m t0 =
            let a1 = and_parts _ _ t0 in
            let a2 = and_parts _ _ a1.0 in
            let a3 = and_parts _ _ a2.0 in
            let a4 = and_parts _ _ a3.0 in
            let a5 = and_parts _ _ a4.0 in
            let f1 = has_fact-holds env (fact true byte_at (Lit 65536) false) u.facts a4.1 m.facts in
            let f2 = has_fact-holds env (fact true byte_at (Lit 16842752) true) u.facts a3.1 m.facts in
            let low : user_start ≤ path_at = grind (arith, nat_tests) in
            let below_end : path_at < user_end = grind (arith, nat_tests) in
            let inside : is_user path_at ≡ true = grind (arith, nat_tests) in
            let x5 : slice_index sys.hart.registers 5 ≡ path_at = subst (λ z. Is env z (slice_index sys.hart.registers 5)) (same-path (reg u 5) byte_at a5.1) (AllIs-get env u.regs sys.hart.registers 5 m.regs) in
            let v = user_byte sys.bus.user path_at in
            let small : v < 2 ^ 64 = let b = whole.user_bytes (path_at - user_start) in omega arith in
            let to : ℕ → ℕ = with_var env v_byte v in
            let m37 = fresh env v_byte v kernel user u sys a2.1 small m in
            let done = byte-step u m (eqb-true u.at pc_path_load a5.0) path_at x5 low below_end in
            let after_is : (sys.hart.pc + 4) % 2 ^ 64 ≡ pc_path_loaded = let q = m.at in let q2 = eqb-true u.at pc_path_load a5.0 in omega arith in
            let there = subst (λ z. Describes kernel user to (record u { at = pc_path_loaded; regs = set u.regs 5 (Var v_byte) }) z) (sym done) (wrote kernel user to u sys m37 fit 5 v (Var v_byte) _ pc_path_loaded after_is refl) in
            let h = landed user to looked_blocks (record u { at = pc_path_loaded; regs = set u.regs 5 (Var v_byte) }) (next given) a1.1 there in
            (land given) Scan Looked refl tt user to h
            ((relink_with given user env) to Scanning Looked p.user (λ n j. (kept_above given user env) v_byte v n (omega arith) j) (λ z. z) l.pc_is l.break_is l) (
              record { has_path = x.0.has_path; goes_on = x.0.goes_on; below = x.0.below; passed = x.0.passed },
              (same-count given user env) (next given).hart.pc ((not-passed_in given user env) to looked_blocks refl h) ∙ x.1,
              record { inside = inside; byte_is = ap (λ z. user_byte z path_at) m.memory.user_is },
            )

        go : Moves may_follow kernel user env blocks scanning_blocks w.block w.state (next given) → (Goal given) Scan
        go (Stays n) = stays n
        go (Goes_to n) = enters n (member-In n.block.kind (scanning_blocks ∷ path_outside_gate ∷ []) n.goes)
        go (Left_open c i) = looks w.state w.describes (subst (λ z. open_ok z w.state ≡ true) w.kind (opens-at w.block w.state w.among c i))

    -- the byte that was looked at, by the test of it
    pub byte_test : ByteIs user env → (t : Bool) → (env v_byte == 0) ≡ t → (user_byte user path_at == 0) ≡ t
    byte_test b t e = ap (λ z. z == 0) (sym b.byte_is) ∙ e

    abbrev pub count_is : ℕ → Type 0
    count_is m = (if (next given).hart.pc == pc_path_passed then min (p.scanned + 1) (2 ^ 32 - 1) else p.scanned) ≡ m

    pub passed-here : Here kernel user env blocks passed_blocks (next given) → ((next given).hart.pc == pc_path_passed) ≡ true
    passed-here w = ap (λ z. z == pc_path_passed) w.describes.at ∙ subst (λ z. passes_ok z w.state ≡ true) w.kind (blocks_all-at passes_ok kernel blocks w.block w.state passes_right w.among w.on)

    pub one-more : (pc : ℕ) → (pc == pc_path_passed) ≡ true → p.scanned ≡ env v_scanned → env v_scanned < 4096 → (if pc == pc_path_passed then min (p.scanned + 1) (2 ^ 32 - 1) else p.scanned) ≡ env v_scanned + 1
    one-more pc e f l = let k : min (p.scanned + 1) (2 ^ 32 - 1) ≡ env v_scanned + 1 = omega arith in rw e k

    pub count-value : (s : State) → same (reg s 28) one_more ≡ true → env v_scanned < 4096 → Describes kernel user env s (next given) → slice_index (next given).hart.registers 28 ≡ env v_scanned + 1
    count-value s e l m =
        let x : slice_index (next given).hart.registers 28 ≡ (env v_scanned + 1) % 2 ^ 64 = subst (λ z. Is env z (slice_index (next given).hart.registers 28)) (same-path (reg s 28) one_more e) (AllIs-get env s.regs (next given).hart.registers 28 m.regs) in
        omega arith

    pub looked : (At given user env) looked_blocks → Links Looked p.user env → ScanIs user env × (p.scanned ≡ env v_scanned) × ByteIs user env → (Goal given) Scan
    looked w l x = go ((moves given user env) looked_blocks w)
      where
        ends_here : (n : (Into given user env) looked_blocks) → n.block.kind ≡ path_end_gate → (Goal given) Scan
        ends_here n e =
            let s = n.block.start in
            let t1 = and_parts _ _ ((gate given user env) looked_blocks path_end_gate n e) in
            let t2 = and_parts _ _ t1.0 in
            let t3 = and_parts _ _ t2.0 in
            let t4 = and_parts _ _ t3.0 in
            let zero_byte : (env v_byte == 0) ≡ true = has_fact-holds env (fact false (Var v_byte) (Lit 0) true) s.facts t4.1 n.describes.facts in
            let v = slice_index (next given).hart.registers 28 in
            let v_is : v ≡ env v_scanned + 1 = count-value s t4.0 x.0.below n.describes in
            let to : ℕ → ℕ = with_var env v_length v in
            let m0 = implies-Describes kernel user env s (found_at s) (next given) t3.1 n.describes in
            let m1 = fresh env v_length v kernel user (found_at s) (next given) t2.1 (fit_next.fit 28) m0 in
            let m2 = learn_reg kernel user to (found_at s) (next given) 28 (Var v_length) refl m1 in
            let found : part env user ≡ posts (path_request (env 17) (env 10) (env 11) v (env 12) (env 13)) =
            (part-scans given user env) x.0.has_path ∙ scan-result env user (ends v) (x.0.goes_on ∙ scan-ends_at user (env 11) (env v_scanned) x.0.below x.2.inside (byte_test x.2 true zero_byte) ∙ ap ends (sym v_is)) in
            (land given) Scan Found refl tt user to (landed user to found_blocks (set_reg (found_at s) 28 (Var v_length)) (next given) t1.1 m2)
            ((relink_with given user env) to Looked Found p.user (λ n j. (kept_above given user env) v_length v n (omega arith) j) (λ z. z) l.pc_is l.break_is l) (x.0.has_path, found)

        passes : (n : (Into given user env) looked_blocks) → n.block.kind ≡ passed_blocks → (Goal given) Scan
        passes n e =
            let h = (enter given user env) looked_blocks passed_blocks n e in
            let t : has_fact (fact false (Var v_byte) (Lit 0) false) n.block.start.facts ≡ true = subst (λ z. starts_speak z n.block.start ≡ true) e (starts-at starts_speak blocks n.block speak_right n.among) in
            let f = has_fact-holds env (fact false (Var v_byte) (Lit 0) false) n.block.start.facts t n.describes.facts in
            (land given) Scan Past refl tt user env h ((relink given user env) Looked Past p.user (λ z. z) l.pc_is l.break_is l) (x.0, one-more (next given).hart.pc (passed-here h) x.1 x.0.below, x.2, f)

        enters : (n : (Into given user env) looked_blocks) → In n.block.kind (path_end_gate ∷ passed_blocks ∷ []) → (Goal given) Scan
        enters n (inl e) = ends_here n e
        enters n (inr (inl e)) = passes n e
        enters n (inr (inr e)) = absurd e

        go : Moves may_follow kernel user env blocks looked_blocks w.block w.state (next given) → (Goal given) Scan
        go (Stays n) = (land given) Scan Looked refl tt user env n l (x.0, (same-count given user env) (next given).hart.pc ((not-passed_in given user env) env looked_blocks refl n) ∙ x.1, x.2)
        go (Goes_to n) = enters n (member-In n.block.kind (path_end_gate ∷ passed_blocks ∷ []) n.goes)
        go (Left_open c i) = absurd ((open-never given user env) looked_blocks w refl c)

    -- a step that leads elsewhere
    pub moves-on : (k : ℕ) (w : (At given user env) k) → leads_ok k ≡ (λ u. test (successors kernel u) (all_at (λ a. not (a == pc_path_passed)))) → not ((next given).hart.pc == pc_path_passed) ≡ true
    moves-on k w q = (goes-elsewhere given user env) (λ a. not (a == pc_path_passed)) w.state w.describes (ap (λ f. f w.state) (sym q) ∙ subst (λ z. leads_ok z w.state ≡ true) w.kind (blocks_all-at leads_ok kernel blocks w.block w.state leads_right w.among w.on))

    pub past : (At given user env) passed_blocks → Links Past p.user env → ScanIs user env × (p.scanned ≡ env v_scanned + 1) × ByteIs user env × ((env v_byte == 0) ≡ false) → (Goal given) Scan
    past w l x = go ((moves given user env) passed_blocks w)
      where
        again : (n : (Into given user env) passed_blocks) → n.block.kind ≡ next_byte_gate → (Goal given) Scan
        again n e =
            let s = n.block.start in
            let t1 = and_parts _ _ ((gate given user env) passed_blocks next_byte_gate n e) in
            let t2 = and_parts _ _ t1.0 in
            let t3 = and_parts _ _ t2.0 in
            let t4 = and_parts _ _ t3.0 in
            let v = slice_index (next given).hart.registers 28 in
            let v_is : v ≡ env v_scanned + 1 = count-value s t4.0 x.0.below n.describes in
            let below0 = x.0.below in
            let f : ((env v_scanned + 1) % 2 ^ 64 == 4096) ≡ false = has_fact-holds env (fact false one_more (Lit 4096) false) s.facts t4.1 n.describes.facts in
            let ne = eqb-false ((env v_scanned + 1) % 2 ^ 64) 4096 f in
            let below1 : v < 4096 = omega arith in
            let to : ℕ → ℕ = with_var env v_scanned v in
            let m0 = implies-Describes kernel user env s (next_again s) (next given) t3.1 n.describes in
            let m1 = fresh env v_scanned v kernel user (next_again s) (next given) t2.1 (fit_next.fit 28) m0 in
            let m2 = learn_reg kernel user to (next_again s) (next given) 28 (Var v_scanned) refl m1 in
            let h = landed user to scanning_blocks (set_reg (next_again s) 28 (Var v_scanned)) (next given) t1.1 m2 in
            let goes : scan user (env 11) 0 4096 ≡ scan user (env 11) v (4096 - v) =
            x.0.goes_on ∙ scan-on_at user (env 11) (env v_scanned) x.0.below x.2.inside (byte_test x.2 false x.3) ∙ ap (λ z. scan user (env 11) z (4096 - z)) (sym v_is) in
            (land given) Scan Scanning refl tt user to h ((relink_with given user env) to Past Scanning p.user (λ n j. (kept_above given user env) v_scanned v n (omega arith) j) (λ z. z) l.pc_is l.break_is l)
            (record { has_path = x.0.has_path; goes_on = goes; below = below1; passed = subst (λ z. (k : ℕ) → k < z → Passed user env k) (sym v_is) (below_more (Passed user env) (env v_scanned) x.0.passed (x.2.inside, byte_test x.2 false x.3)) }, (same-count given user env) (next given).hart.pc ((not-passed_in given user env) to scanning_blocks refl h) ∙ x.1 ∙ sym v_is)

        fulls : (n : (Into given user env) passed_blocks) → n.block.kind ≡ full_blocks → (Goal given) Scan
        fulls n e =
            let h = (enter given user env) passed_blocks full_blocks n e in
            (land given) Scan Full refl tt user env h ((relink given user env) Past Full p.user (λ z. z) l.pc_is l.break_is l) (x.0, (same-count given user env) (next given).hart.pc ((not-passed_in given user env) env full_blocks refl h) ∙ x.1, x.2, x.3)

        enters : (n : (Into given user env) passed_blocks) → In n.block.kind (next_byte_gate ∷ full_blocks ∷ []) → (Goal given) Scan
        enters n (inl e) = again n e
        enters n (inr (inl e)) = fulls n e
        enters n (inr (inr e)) = absurd e

        go : Moves may_follow kernel user env blocks passed_blocks w.block w.state (next given) → (Goal given) Scan
        go (Stays n) = absurd (false≢true (sym (not-false _ (moves-on passed_blocks w refl)) ∙ passed-here n))
        go (Goes_to n) = enters n (member-In n.block.kind (next_byte_gate ∷ full_blocks ∷ []) n.goes)
        go (Left_open c i) = absurd ((open-never given user env) passed_blocks w refl c)

    pub full : (At given user env) full_blocks → Links Full p.user env → ScanIs user env × (p.scanned ≡ env v_scanned + 1) × ByteIs user env × ((env v_byte == 0) ≡ false) → (Goal given) Scan
    full w l x = go ((moves given user env) full_blocks w)
      where
        too_long : (n : (Into given user env) full_blocks) → n.block.kind ≡ path_long_gate → (Goal given) Scan
        too_long n e =
            let s = n.block.start in
            let t = and_parts _ _ ((gate given user env) full_blocks path_long_gate n e) in
            let below0 = x.0.below in
            let f : (env v_scanned + 1) % 2 ^ 64 ≡ 4096 = eqb-true _ _ (has_fact-holds env (fact false one_more (Lit 4096) true) s.facts t.0 n.describes.facts) in
            let none : 4096 - (env v_scanned + 1) ≡ 0 = omega arith in
            let all : scan user (env 11) 0 4096 ≡ is_long =
            x.0.goes_on ∙ scan-on_at user (env 11) (env v_scanned) x.0.below x.2.inside (byte_test x.2 false x.3) ∙ scan-long user (env 11) (env v_scanned + 1) (4096 - (env v_scanned + 1)) none in
            (land given) Scan Long refl tt user env (landed user env long_blocks s (next given) t.1 n.describes) ((relink given user env) Full Long p.user (λ z. z) l.pc_is l.break_is l) ((part-scans given user env) x.0.has_path ∙ scan-result env user is_long all)

        enters : (n : (Into given user env) full_blocks) → In n.block.kind (path_long_gate ∷ []) → (Goal given) Scan
        enters n (inl e) = too_long n e
        enters n (inr e) = absurd e

        go : Moves may_follow kernel user env blocks full_blocks w.block w.state (next given) → (Goal given) Scan
        go (Stays n) = (land given) Scan Full refl tt user env n l (x.0, (same-count given user env) (next given).hart.pc ((not-passed_in given user env) env full_blocks refl n) ∙ x.1, x.2, x.3)
        go (Goes_to n) = enters n (member-In n.block.kind (path_long_gate ∷ []) n.goes)
        go (Left_open c i) = absurd ((open-never given user env) full_blocks w refl c)
