-- Steps in Save and Check.
use Rattle.std.proofs.Common.{◌≡◌, ℕ, Bool, true, false, inl, inr, List, [], ◌∷◌, refl, ap, subst, ◌∙◌}
use Rattle.std.proofs.lemmas.Bool.{false≢true, eqb-true, eqb-false, and_parts}
use Rattle.rv_hart.specs.HartStep.{System, AreRegisters, hart_step}
use Rattle.guest_memory.specs.Bus.{IsBus}
use Rattle.kernel_sim.specs.declared.phase.PhaseKind.TheVariants.{Save, Check}
use Rattle.kernel_sim.specs.declared.phase.Phase.{Phase}
use Rattle.kernel_steps.specs.Terms.{Lit, Var}
use Rattle.kernel_steps.specs.Successors.{reg}
use Rattle.kernel_steps.specs.Blocks.{Moves, Stays, Goes_to, Left_open, has_fact}
use Rattle.kernel_code.specs.Kinds.{may_follow}
use Rattle.kernel_code.specs.Kernel.{kernel, blocks}
use Rattle.kernel_sim.specs.Stages.{Saving, Checking, Starting, Filling, NoCall, Outside, Breaking, Choosing, TrapIs, Links}
use Rattle.kernel_steps.proofs.GraphLaws.{has_fact-holds}
use Rattle.kernel_sim.proofs.Decide.{Gives, Posts, Scans}
use Rattle.kernel_steps.proofs.Tests.{In, member-In, starts-at}
use Rattle.kernel_sim.proofs.Gates.{landed, fill_at, filled, fact}
use Rattle.kernel_code.specs.Numbers.{saving_blocks, checking_blocks, filling_blocks, no_call_blocks, choosing_blocks, v_cause, path_gate, starting_blocks, buffer_gate, outside_blocks, no_call_gate, break_gate, break_blocks, request_gate}
use Rattle.kernel_sim.proofs.PlaceLaws.{starts_speak, speak_right, is_called, starts_call, call_right}
use Rattle.kernel_sim.proofs.StageLaws.{Setting, next, Goal, land, At, Into, moves, enter, gate, open-never, relink, decided, part-gives, part-posts, is_known-values, env6, fill-describes, links6, list6, to_speak}

module _ (given : Setting) where
  abbrev p : Phase
  p = given.phase

  abbrev sys : System
  sys = given.system

  abbrev fit : AreRegisters sys.hart.registers
  fit = given.fit

  abbrev fit_next : AreRegisters (hart_step sys).hart.registers
  fit_next = given.fit_next

  abbrev whole : IsBus sys.bus
  whole = given.whole

  abbrev whole_next : IsBus (hart_step sys).bus
  whole_next = given.whole_next

  module _ (user : List ℕ) (env : ℕ → ℕ) where
    pub saving : (At given user env) saving_blocks → Links Saving p.user env → TrapIs p env → (Goal given) Save
    saving w l x = go ((moves given user env) saving_blocks w)
      where
        enters : (n : (Into given user env) saving_blocks) → In n.block.kind (checking_blocks ∷ []) → (Goal given) Save
        enters n (inl e) = (land given) Save Checking refl tt user env ((enter given user env) saving_blocks checking_blocks n e) ((relink given user env) Saving Checking p.user (λ z. tt) l.pc_is l.break_is l) x
        enters n (inr e) = absurd e

        go : Moves may_follow kernel user env blocks saving_blocks w.block w.state (next given) → (Goal given) Save
        go (Stays n) = (land given) Save Saving refl tt user env n l x
        go (Goes_to n) = enters n (member-In n.block.kind (checking_blocks ∷ []) n.goes)
        go (Left_open c i) = absurd ((open-never given user env) saving_blocks w refl c)

    -- behind the test of the cause
    pub call_cause : (n : (Into given user env) checking_blocks) → is_called n.block.kind ≡ true → env v_cause ≡ 8
    call_cause n e = eqb-true (env v_cause) 8 (has_fact-holds env (fact false (Var v_cause) (Lit 8) true) n.block.start.facts (go (is_called n.block.kind) e (starts-at starts_call blocks n.block call_right n.among)) n.describes.facts)
      where
        go : (b : Bool) → b ≡ true → ◌≡◌ {A = Bool} (elim b [ true ↦ has_fact (fact false (Var v_cause) (Lit 8) true) n.block.start.facts | false ↦ true ]) true → has_fact (fact false (Var v_cause) (Lit 8) true) n.block.start.facts ≡ true
        go true p q = q
        go false p q = absurd (false≢true p)

    pub checking : (At given user env) checking_blocks → Links Checking p.user env → TrapIs p env → (Goal given) Check
    checking w l x = go ((moves given user env) checking_blocks w)
      where
        speaks : (n : (Into given user env) checking_blocks) → n.block.kind ≡ choosing_blocks → (Goal given) Check
        speaks n e =
            let h = (enter given user env) checking_blocks choosing_blocks n e in
            let t : starts_speak n.block.kind n.block.start ≡ true = starts-at starts_speak blocks n.block speak_right n.among in
            let t2 : has_fact (fact false (Var v_cause) (Lit 8) false) n.block.start.facts ≡ true = subst (λ z. starts_speak z n.block.start ≡ true) e t in
            let f = has_fact-holds env (fact false (Var v_cause) (Lit 8) false) n.block.start.facts t2 n.describes.facts in
            (land given) Check Choosing refl tt user env h ((relink given user env) Checking Choosing p.user (λ z. eqb-false (env v_cause) 8 f) l.pc_is l.break_is l) ((to_speak given user env) x f)

        starts_scan : (n : (Into given user env) checking_blocks) → n.block.kind ≡ path_gate → (Goal given) Check
        starts_scan n e =
            let t = and_parts _ _ ((gate given user env) checking_blocks path_gate n e) in
            (land given) Check Starting refl tt user env (landed user env starting_blocks n.block.start (next given) t.1 n.describes) ((relink given user env) Checking Starting p.user (λ z. call_cause n (ap is_called e)) l.pc_is l.break_is l) ((decided given user env) n.block.start Scans t.0 n.describes.facts, refl)

        outside : (n : (Into given user env) checking_blocks) → n.block.kind ≡ buffer_gate → (Goal given) Check
        outside n e =
            let t = and_parts _ _ ((gate given user env) checking_blocks buffer_gate n e) in
            (land given) Check Outside refl tt user env (landed user env outside_blocks n.block.start (next given) t.1 n.describes) ((relink given user env) Checking Outside p.user (λ z. call_cause n (ap is_called e)) l.pc_is l.break_is l) ((part-gives given user env) _ ((decided given user env) n.block.start (Gives (Lit 18446744073709551602)) t.0 n.describes.facts))

        unknown : (n : (Into given user env) checking_blocks) → n.block.kind ≡ no_call_gate → (Goal given) Check
        unknown n e =
            let t = and_parts _ _ ((gate given user env) checking_blocks no_call_gate n e) in
            (land given) Check NoCall refl tt user env (landed user env no_call_blocks n.block.start (next given) t.1 n.describes) ((relink given user env) Checking NoCall p.user (λ z. call_cause n (ap is_called e)) l.pc_is l.break_is l) ((part-gives given user env) _ ((decided given user env) n.block.start (Gives (Lit 18446744073709551578)) t.0 n.describes.facts))

        breaks : (n : (Into given user env) checking_blocks) → n.block.kind ≡ break_gate → (Goal given) Check
        breaks n e =
            let t = and_parts _ _ ((gate given user env) checking_blocks break_gate n e) in
            let f = eqb-true (env 17) 214 (has_fact-holds env (fact false (Var 17) (Lit 214) true) n.block.start.facts t.0 n.describes.facts) in
            (land given) Check Breaking refl tt user env (landed user env break_blocks n.block.start (next given) t.1 n.describes) ((relink given user env) Checking Breaking p.user (λ z. call_cause n (ap is_called e)) l.pc_is (inl l.break_is) l) f

        fills : (n : (Into given user env) checking_blocks) → n.block.kind ≡ request_gate → (Goal given) Check
        fills n e =
            let s = n.block.start in
            let t = and_parts _ _ ((gate given user env) checking_blocks request_gate n e) in
            let t2 = and_parts _ _ t.0 in
            let t3 = and_parts _ _ t2.0 in
            let t4 = and_parts _ _ t3.0 in
            let a = and_parts _ _ t4.1 in
            let b = and_parts _ _ a.1 in
            let c = and_parts _ _ b.1 in
            let d = and_parts _ _ c.1 in
            let f = and_parts _ _ d.1 in
            let g = and_parts _ _ f.1 in
            let v = (is_known-values given user env) s n.describes in
            let m = (fill-describes given user env) s t3.1 t2.1 n.describes in
            let q = (decided given user env) s (Posts (reg s 17 ∷ reg s 10 ∷ reg s 11 ∷ reg s 12 ∷ reg s 13 ∷ reg s 14 ∷ Lit 0 ∷ Lit 0 ∷ [])) t4.0 n.describes.facts in
            (land given) Check Filling refl tt user (env6 given user env) (landed user (env6 given user env) filling_blocks (filled (fill_at s)) (next given) t.1 m) ((links6 given user env) Checking Filling p.user (λ z. call_cause n (ap is_called e)) refl l.pc_is l.break_is l)
            ((part-posts given user env) _ q ∙ (list6 given user env) _ _ _ _ _ _ _ _ _ _ _ _ (v 17 a.0) (v 10 b.0) (v 11 c.0) (v 12 d.0) (v 13 f.0) (v 14 g.0))

        enters : (n : (Into given user env) checking_blocks) → In n.block.kind (checking_blocks ∷ choosing_blocks ∷ path_gate ∷ buffer_gate ∷ no_call_gate ∷ break_gate ∷ request_gate ∷ []) → (Goal given) Check
        enters n (inl e) = (land given) Check Checking refl tt user env ((enter given user env) checking_blocks checking_blocks n e) l x
        enters n (inr (inl e)) = speaks n e
        enters n (inr (inr (inl e))) = starts_scan n e
        enters n (inr (inr (inr (inl e)))) = outside n e
        enters n (inr (inr (inr (inr (inl e))))) = unknown n e
        enters n (inr (inr (inr (inr (inr (inl e)))))) = breaks n e
        enters n (inr (inr (inr (inr (inr (inr (inl e))))))) = fills n e
        enters n (inr (inr (inr (inr (inr (inr (inr e))))))) = absurd e

        go : Moves may_follow kernel user env blocks checking_blocks w.block w.state (next given) → (Goal given) Check
        go (Stays n) = (land given) Check Checking refl tt user env n l x
        go (Goes_to n) = enters n (member-In n.block.kind (checking_blocks ∷ choosing_blocks ∷ path_gate ∷ buffer_gate ∷ no_call_gate ∷ break_gate ∷ request_gate ∷ []) n.goes)
        go (Left_open c i) = absurd ((open-never given user env) checking_blocks w refl c)
