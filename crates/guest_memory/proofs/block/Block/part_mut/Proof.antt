-- `part_mut` lends a run of the bytes, and the block follows them. Assumes `Logic`.
use Rattle.std.proofs.Common.{◌≡◌, ℕ, ◌+◌, ◌-◌, ◌*◌, ◌^◌, ◌<◌, ◌≤◌, List, [], ◌∷◌, ◌++◌, length, take, drop as skip, length-take, length-drop, length-append, take-append-drop, refl, sym, ap, subst, ◌∙◌, w64, arith, MutBor}
use Rattle.std.proofs.lemmas.List.{take_all}
use lib.Seq.{drop-drop}
use seplogic.Ra.Ura.{Ura}
use base.Fraction.{full_share}
use base.Logic.{ent, sep, id⊢}
use base.Fml.{Fml, GName, ftrue, feq, fsep, flft}
use mir.Syntax.{named}
use mir.Val.{Val, vint}
use types.Logic.{Logic, sem}
use types.SemTy.{cells}
use contract.Monad.{fact}
use contract.Running.{tables}
use types.Kit.{by, ‵, raw, ◌⊛◌, some, later, at_ret, ◌$◌, ◌∵◌, !, qed, done, move, keep, use1, use2, split, split3, join, fsplit, fsplit3, fjoin, fpack, feq_i, feq_l, pick, await, rewrite, suffices, frame, group}
use types.Part.{agg, whole, sub, look_in}
use types.Run.{stop, fld, load, bin, of_opd, no_more, and_then, first, blocks, exec, returns, enter}
use types.ByLocal.{alloc_all, pass_all, free_all, look_at, get, through, sets, sets_last, env}
use denote.Array.{Array}
use denote.Builtin.{u8, usize}
use denote.Plain.{uint_vals, uint_Tells}
use denote.Exit.{no, yes}
use denote.Follow.{follows}
use denote.FollowSlice.{Elements, lends_Elements}
use denote.Index.{whole_in, whole_out}
use denote.Laws.{shows}
use denote.Memory.{mem, part_at, part_of, cell_at}
use denote.RattleType.{RattleType, owns}
use denote.RawPtr.{Ptr, block_ptr, lies_at, in_a_block}
use denote.RawPtr.Bytes.{bytes, bytes_cut, bytes_glue, bytes_apart, bytes_whole}
use denote.Ref.{MutRef, mut_vals, mut_Tells}
use denote.Signature.{plain, mut_ref_to}
use denote.Slice.{MutSlice, slice_val}
use denote.Steps.{nothing, heard, opens, peeks}
use denote.Struct.Owning.{shape}
use denote.Struct.Struct.{Struct}
use denote.Triple.Walked.{Stays, stay_dropped, walk_of, says, Goes-dropped, Goes-spent_ref, ends_at}
use Rattle.core.proofs.slots.Bodies.{after}
use Rattle.std.proofs.raw_atomic.Walks.{proved}
use Rattle.guest_memory.specs.Lending.{with_bytes}
use Rattle.guest_memory.specs.Memory.{with_part}
use Rattle.guest_memory.specs.contracts.block.Block as C
use Rattle.guest_memory.proofs.block.Block.TheLaws.{lowers}
use Rattle.guest_memory.specs.contracts.block.Block.part_mut as f
use Rattle.guest_memory.proofs.block.Block.part_mut.Statement.{statement}
use Rattle.guest_memory.proofs.block.Block.part_mut.Code as code

abbrev R : RattleType
R = C.the_row

abbrev stayed : Stays f.ended.signature.params f.ended.kept
stayed = (stay_dropped (mut_ref_to (0 ∷ []) tt (plain (λ _. R))) no, (stay_dropped (plain (λ _. usize)) yes, (stay_dropped (plain (λ _. usize)) yes, tt)))

module _ (at n : ℕ) (xs : List ℕ) where
  abbrev part : List ℕ
  part = take n (skip at xs)

  cut : xs ≡ take at xs ++ (part ++ skip (at + n) xs)
  cut = sym (take-append-drop at xs) ∙ ap (λ (l : List ℕ). take at xs ++ l) (sym (take-append-drop n (skip at xs)) ∙ ap (λ (l : List ℕ). part ++ l) (drop-drop n at xs))

module _ {M : Type 1} {𝓤 : Ura M} (𝓛 : Logic 𝓤) (rb ro : ℕ) (h : R.Denot) (us : List Val) (at n : ℕ) (b o : ℕ) where
  abbrev xs : List ℕ
  xs = h.bytes

  abbrev put : List ℕ → R.Denot
  put ws = with_bytes h (with_part xs at ws)

  abbrev new : List ℕ → R.Denot
  new ws = put (take n ws)

  abbrev Row : List ℕ → ℕ → Fml
  Row ws p = bytes full_share ws b p

  -- the bytes on either side
  abbrev Sides : Fml
  Sides = fsep (Row (take at xs) o) (Row (skip (at + n) xs) (n + (at + o)))

  -- the block but for the run
  abbrev Rest : Fml
  Rest = fsep Sides (fsep ((Struct (shape C.the_type)).own_val (h.ptr, (h.len, tt)) us) (cell_at full_share R.mir us rb ro))

  run_out : at + n ≤ length xs → ent 𝓤 (sem 𝓛 (Row xs o)) (sep 𝓤 (sem 𝓛 (Row (part at n xs) (at + o))) (sem 𝓛 Sides))
  run_out le =
      let front : length (take at xs) ≡ at = omega (arith, length-take at xs) in
      let long : length (part at n xs) ≡ n = omega (arith, length-take n (skip at xs), length-drop at xs) in
      qed 𝓛 (‵ (Row xs o) ∷ []) ∵ rewrite ! 0 (λ (l : List ℕ). ‵ (Row l o)) (cut at n xs) refl $
      use1 𝓛 (‵ (Row (take at xs) o) ⊛ ‵ (Row (part at n xs ++ skip (at + n) xs) (o + length (take at xs)))) (bytes_cut 𝓛 full_share (take at xs) (part at n xs ++ skip (at + n) xs) b o) $ split ! $ move ! (1 ∷ []) $
      rewrite ! 0 (λ (p : ℕ). ‵ (Row (part at n xs ++ skip (at + n) xs) p)) {x = at + o} {y = o + length (take at xs)} (omega (arith, front)) refl $
      use1 𝓛 (‵ (Row (part at n xs) (at + o)) ⊛ ‵ (Row (skip (at + n) xs) (at + o + length (part at n xs)))) (bytes_cut 𝓛 full_share (part at n xs) (skip (at + n) xs) b (at + o)) $ split ! $ move ! (1 ∷ []) $
      rewrite ! 0 (λ (p : ℕ). ‵ (Row (skip (at + n) xs) p)) {x = n + (at + o)} {y = at + o + length (part at n xs)} (omega (arith, long)) refl $
      move ! (2 ∷ 0 ∷ []) $ fjoin ! $ move ! (1 ∷ 0 ∷ []) $ done !

  run_in : at + n ≤ length xs → (ws : List ℕ) → length ws ≡ n → ent 𝓤 (sep 𝓤 (sem 𝓛 (Row ws (at + o))) (sem 𝓛 Sides)) (sem 𝓛 (Row (with_part xs at ws) o))
  run_in le ws long =
      let front : length (take at xs) ≡ at = omega (arith, length-take at xs) in
      qed 𝓛 (‵ (Row ws (at + o)) ∷ ‵ Sides ∷ []) ∵ move ! (1 ∷ []) $ fsplit ! $ move ! (2 ∷ 1 ∷ []) $
      rewrite ! 1 (λ (p : ℕ). ‵ (Row (skip (at + n) xs) p)) {x = at + o + length ws} {y = n + (at + o)} (omega (arith, long)) refl $
      rewrite ! 1 (λ (k : ℕ). ‵ (Row (skip (at + k) xs) (at + o + length ws))) (sym long) refl $
      use2 𝓛 (‵ (Row (ws ++ skip (at + length ws) xs) (at + o))) (bytes_glue 𝓛 full_share ws (skip (at + length ws) xs) b (at + o)) $
      rewrite ! 0 (λ (p : ℕ). ‵ (Row (ws ++ skip (at + length ws) xs) p)) {x = o + length (take at xs)} {y = at + o} (omega (arith, front)) refl $ move ! (1 ∷ 0 ∷ []) $
      by ! (bytes_glue 𝓛 full_share (take at xs) (ws ++ skip (at + length ws) xs) b o)

  back_to : h.ptr ≡ block_ptr b o → length xs ≡ h.len → at + n ≤ length xs → (ws : List ℕ) → length ws ≡ length (part at n xs)
      → ent 𝓤 (sep 𝓤 (sem 𝓛 (cells (mem u8) ws b (at + o))) (sem 𝓛 Rest)) (sem 𝓛 ((mem R).own_at (put ws) rb ro))
  unfolding part_of
  back_to e count le ws same =
      let long : length ws ≡ n = omega (arith, same, length-take n (skip at xs), length-drop at xs) in
      let whole_length : length (with_part xs at ws) ≡ h.len = omega (arith, count, long, length-append (take at xs) (ws ++ skip (at + length ws) xs), length-append ws (skip (at + length ws) xs), length-take at xs, length-drop (at + length ws) xs) in
      qed 𝓛 (‵ (cells (mem u8) ws b (at + o)) ∷ ‵ Rest ∷ []) ∵ use1 𝓛 (‵ (Row ws (at + o))) (whole_out 𝓛 u8 ws b (at + o)) $ move ! (1 ∷ []) $ fsplit ! $ move ! (2 ∷ 0 ∷ []) $
      use2 𝓛 (‵ (Row (with_part xs at ws) o)) (run_in le ws long) $
      feq_i ! ℕ (length (with_part xs at ws)) h.len whole_length $ fjoin ! $ use1 𝓛 (‵ (part_at (Array u8 h.len) full_share (with_part xs at ws) b o)) (bytes_whole 𝓛 full_share h.len (with_part xs at ws) b o) $
      rewrite ! 0 (λ (p : Ptr). ‵ (lies_at (Array u8 h.len) full_share p (with_part xs at ws))) (sym e) refl $ move ! (1 ∷ []) $ fsplit ! $
      move ! (0 ∷ 2 ∷ []) $ fjoin ! $ move ! (1 ∷ 0 ∷ []) $ fjoin ! $
      fpack ! (List Val) (λ vs. fsep (cell_at full_share R.mir vs rb ro) (R.own_val (put ws) vs)) us $ done !

  back : h.ptr ≡ block_ptr b o → length xs ≡ h.len → at + n ≤ length xs → (ws : List ℕ) → length ws ≡ length (part at n xs)
      → ent 𝓤 (sep 𝓤 (sem 𝓛 (cells (mem u8) ws b (at + o))) (sem 𝓛 Rest)) (sem 𝓛 ((mem R).own_at (new ws) rb ro))
  back e count le ws same =
      let all : take n ws ≡ ws = take_all n ws (omega (arith, same, length-take n (skip at xs), length-drop at xs)) in
      subst (λ (zs : List ℕ). ent 𝓤 (sep 𝓤 (sem 𝓛 (cells (mem u8) ws b (at + o))) (sem 𝓛 Rest)) (sem 𝓛 ((mem R).own_at (put zs) rb ro))) (sym all) (back_to e count le ws same)

pub part_mut_spec : {M : Type 1} → statement M
part_mut_spec 𝓤 𝓛 𝓜 𝓡 wired =
    let c = f.clauses 𝓛 𝓜.mem 𝓡.returns in let W = walk_of 𝓛 f.ended stayed c in let 𝓣 = tables 𝓤 𝓛.H 𝓜 𝓡 𝓡.env in
    let gone = Goes-dropped 𝓛 1 (plain (λ _. usize)) yes (λ κs x w. refl) in
    proved 𝓛 f.ended stayed c 𝓜 𝓡 (Goes-spent_ref 𝓛 1 (0 ∷ []) tt (plain (λ _. R)), (gone, (gone, tt)))
    f.Key.name code.function (code.unfolded 𝓤 𝓛.H 𝓜 𝓡 wired)
    (λ κs. (mut_vals, (uint_vals w64, (uint_vals w64, tt)))) (λ κs. (mut_Tells (named 0) κs.0 R, (uint_Tells w64, (uint_Tells w64, tt)))) (λ κs qs bounds a _ are.
    let κ = κs.0 in let q = qs.0 in let rb = a.0.ref_ptr.0 in let ro = a.0.ref_ptr.1 in let γ = a.0.ghost_name in let h = a.0.now in let all = h.bytes in
    let at = a.1.0 in let n = a.1.1.0 in let ys = part at n all in let fa = are.1.0.1 in let fn = are.1.1.0.1 in
    let vss : List Val × (List Val × (List Val × Unit {0})) = (mut_vals a.0, (vint w64 at ∷ [], (vint w64 n ∷ [], tt))) in
    let y : W.Ghost = ((κs, qs, bounds, a, vss), tt) in let code_of = R.coded.code h in let Asked : Type 0 = at + n ≤ length all in
    qed 𝓛 (((‵ (flft κ q) ⊛ ‵ ftrue) ⊛ ‵ (owns (MutRef (named 0) κ R ∷ usize ∷ usize ∷ []) a vss)) ∷ raw (fact 𝓤 Asked) ∷ []) ∵
    move ! (1 ∷ []) $ heard ! Asked (λ asked. split ! $ split ! $ move ! (2 ∷ []) $ fsplit ! $ fsplit3 ! $ move ! (1 ∷ 2 ∷ 4 ∷ []) $ keep ! (0 ∷ 1 ∷ 2 ∷ []) $
    enter ! _ _ _ _ _ $ alloc_all ! (λ l. pass_all ! refl ((tt, tt), ((tt, record { fits = fa }), ((tt, record { fits = fn }), tt))) $
    opens ! tt R {h = h} rb ro (λ us. move ! (1 ∷ []) $ peeks ! R _ (shows 𝓛 R) h us (λ is. fsplit ! $ move ! (1 ∷ []) $
    in_a_block ! h.ptr (λ p. lies_at (Array u8 h.len) full_share p all) (id⊢ 𝓤 _) (λ b o e.
    let word = lowers.val_is h us is ∙ ap (λ (p : Ptr). lowers.lowered (record h { ptr = p }) ∷ []) e in
    let Cell = λ (ws : List Val). ‵ (cell_at full_share R.mir ws rb ro) in let low = h.small in
    rewrite ! 2 Cell word refl $
    -- [the bytes; what the fields own; the struct's cell; the open borrow, in three entries]
    first ! $ blocks ! $
    sets ! (of_opd ! (load ! (through ! refl (fld ! refl (stop !))) (look_in ! 2 (sub ! 0 refl (whole !))))) refl (tt, tt) $
    sets ! (bin ! (get ! refl) (get ! refl) tt) refl (tt, tt) $
    sets_last ! (agg ! (and_then ! (get ! refl) (and_then ! (get ! refl) (no_more !)))) refl (tt, (tt, (record { fits = fn }, tt))) $
    exec ! 𝓣.C 𝓣.Λ (env (code.function).locals l) (after 1 (code.function).body) (at_ret _ (W.post y)) $
    sets ! (of_opd ! (get ! refl)) refl (tt, (tt, (record { fits = fn }, tt))) $
    rewrite ! 2 Cell (sym word) refl $
    use1 𝓛 (‵ (fsep (feq ℕ (length all) h.len) (bytes full_share all b o))) (bytes_apart 𝓛 full_share h.len all b o) $ fsplit ! $ feq_l ! (λ count.
    use1 𝓛 (‵ (bytes full_share ys b (at + o)) ⊛ ‵ (Sides 𝓛 rb ro h us at n b o)) (run_out 𝓛 rb ro h us at n b o asked) $ split ! $
    use1 𝓛 (‵ (cells (mem u8) ys b (at + o))) (whole_in 𝓛 u8 ys b (at + o)) $
    -- [the run; its sides; the fields; the cell; the open borrow, in three entries]
    move ! (2 ∷ 3 ∷ []) $ fjoin ! $ move ! (2 ∷ 0 ∷ []) $ fjoin ! $ move ! (2 ∷ 3 ∷ 4 ∷ 1 ∷ 0 ∷ []) $ group ! 5 $
    let long : length ys ≡ n = omega (arith, length-take n (skip at all), length-drop at all) in
    let way = back 𝓛 rb ro h us at n b o e count asked in let roomy : length ys < 2 ^ 64 = omega arith in let fitting : length ys * 1 < 2 ^ 63 = omega arith in
    let next = new 𝓛 rb ro h us at n b o in let rest = sem 𝓛 (Rest 𝓛 rb ro h us at n b o) in
    use1 𝓛 (later (some (λ (δ : GName). raw (Elements 𝓛 R u8 next (named 0) κ q rb ro b (at + o) γ ys (roomy, fitting) rest way δ))))
    (lends_Elements 𝓛 R u8 next (named 0) κ q rb ro b (at + o) γ ys (roomy, fitting) rest way code_of code_of) $ await ! tt $ pick ! (λ δ.
    let r : MutBor (List ℕ) = record { ref_ptr = (b, at + o); ghost_name = δ; now = ys } in
    returns ! (look_at ! 0 refl) $ free_all ! refl $ keep ! (0 ∷ []) $
    use1 𝓛 (‵ ((MutSlice (named 0) κ u8).own_val r (slice_val (b, at + o) (length ys) ∷ [])) ⊛ ‵ (flft κ q) ⊛ ‵ (follows R (Array u8 0) γ δ next)) (id⊢ 𝓤 _) $ split3 ! $
    rewrite ! 0 (λ (j : ℕ). ‵ ((MutSlice (named 0) κ u8).own_val r (slice_val (b, at + o) j ∷ []))) long refl $
    suffices ! _ (ends_at 𝓛 f.ended stayed c y (slice_val (b, at + o) n) r (tt, (tt, (tt, tt))) (tt, (tt, (tt, tt)))) $
    nothing ! $ nothing ! $ fjoin ! $ nothing ! $ fjoin ! $ nothing ! $ fjoin ! $ join ! $ nothing ! $ move ! (2 ∷ 0 ∷ []) $ join ! $ join ! $ frame ! $
    says ! (ap (λ (k : ℕ). take k (skip at all)) {x = n} {y = at + n - at} (omega arith)) $ done !))))))))
