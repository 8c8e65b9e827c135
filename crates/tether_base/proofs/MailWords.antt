-- The words of the mailbox over the target while the kernel waits: read, written, and refused.
use Rattle.std.proofs.Common.{◌≡◌, ◌≢◌, ◌⊎◌, ◌≤◌, ◌<◌, ◌+◌, ◌%◌, ◌^◌, ℕ, inl, inr, List, [], ◌∷◌, ◌++◌}
use Rattle.std.proofs.Common.{refl, sym, ap, subst, ◌∙◌, arith}
use Rattle.std.specs.Prelude.{get_or, slice_index, slice_set, Some, Ok, Err}
use Rattle.std.specs.Int.{to_le_bytes, from_le_bytes, w64}
use Rattle.std.proofs.lemmas.Nat.{from_le_bytes-to_le_bytes_8}
use Rattle.chunk_memory.proofs.BusRanges.{doublewords_stored}
use Rattle.chunk_memory.proofs.WordLemmas.{number-of}
use Rattle.chunk_memory.specs.BeatLaws.{eight-of}
use Rattle.chunk_memory.specs.RangeLaws.{OneStore}
use Rattle.chunk_memory.specs.Reached.{Reached}
use Rattle.chunk_memory.specs.declared.stops.MemStop.{MemStop}
use Rattle.chunk_memory.specs.declared.stops.MemStop.TheVariants.{Unmapped, Spent, WireFault, CmdErr}
use Rattle.fe_base.specs.Access.{Access, Stored}
use Rattle.fe_base.specs.MemoryMap.{kernel_start, kernel_end, start_word, tohost, fromhost, request}
use Rattle.guest_memory.proofs.AreaLemmas.{is_ram-kernel, bus_store-kernel, IsBus-with_beat}
use Rattle.guest_memory.proofs.BusLemmas.{is_beat-ram, beat-ram, with_beat-ram}
use Rattle.guest_memory.specs.Bus.{BusState, beat, with_beat}
use Rattle.htif_mailbox.specs.Turns.{call_answer}
use Rattle.kernel_sim.specs.Advance.{StepsAdvance, HostWritesHold}
use Rattle.kernel_sim.specs.Holds.{Holds}
use Rattle.kernel_sim.specs.HostWrites.{HostWrite, Clears, Results, Answers, written}
use Rattle.kernel_sim.specs.Mail.{mail_class, Asked}
use Rattle.kernel_sim.specs.Phases.{dword, request_of}
use Rattle.rv_hart.specs.HartStep.{System, HartState}
use Rattle.rv_hart.specs.Laws.{IsSystem}
use Rattle.rv_hart.specs.Walks.{hart_after-zero}
use Rattle.syscall_proxy.specs.Request.{doublewords}
use Rattle.target_box.specs.Turn.{ran, touched}
use Rattle.tether_base.proofs.Areas.{Gives, reads-keep, words-read}
use Rattle.tether_base.proofs.Stayed.{stays-ran}
use Rattle.tether_base.specs.Serving.{with_tohost, with_result, IsAnswered}
use Rattle.tether_base.specs.ToldActs.{SeenRead, SeenWritten}
use Rattle.tether_base.specs.Waiting.{CallState, Waiting}

-- ---- a doubleword of the kernel area
pub kernel-beat : (bus : BusState) (at found : ℕ) → at % 8 ≡ 0 → kernel_start ≤ at → at + 8 ≤ kernel_end → beat bus at
    ≡ Some found → found ≡ dword bus at
kernel-beat bus at found even low high e =
    let other : at ≢ start_word = λ is. omega arith in
    let both : Some found ≡ Some (dword bus at) =
    sym e ∙ beat-ram bus at other (is_beat-ram at even (is_ram-kernel at 8 low high)) in
    cc

put-kernel : (bus : BusState) (at value : ℕ) → at % 8 ≡ 0 → kernel_start ≤ at → at + 8 ≤ kernel_end
    → (with_beat bus at value).user ≡ bus.user
put-kernel bus at value even low high =
    let other : at ≢ start_word = λ is. omega arith in
    ap (λ (b : BusState). b.user) (with_beat-ram bus at value other (is_beat-ram at even (is_ram-kernel at 8 low high))
    ∙ bus_store-kernel bus at 8 value low)

-- the doubleword of 8 bytes
word-of : (bytes : List ℕ) (value : ℕ) → doublewords 1 bytes ≡ value ∷ [] → from_le_bytes w64 bytes ≡ value
word-of bytes value e = sym (number-of bytes) ∙ ap (λ (l : List ℕ). get_or l 0 0) e

-- ---- one store
same-word : (v value : ℕ) → v < 2 ^ 64 → value < 2 ^ 64 → to_le_bytes w64 v ≡ to_le_bytes w64 value → value ≡ v
same-word v value small fits e =
    sym (from_le_bytes-to_le_bytes_8 value fits) ∙ ap (λ (l : List ℕ). from_le_bytes w64 l) (sym e)
    ∙ from_le_bytes-to_le_bytes_8 v small

front-of : (xs ys : List Access) (x : Access) → xs ++ ys ≡ x ∷ [] → (xs ≡ []) ⊎ (xs ≡ x ∷ [])
front-of [] ys x e = inl refl
front-of (a ∷ []) ys x e = let same : a ≡ x = cc in inr (ap (λ (z : Access). z ∷ []) same)
front-of (a ∷ b ∷ xs) ys x e = let no : ⊥ = cc in absurd no

-- a doubleword was written
pub store-word : (at v : ℕ) (s now : System) → at % 8 ≡ 0 → v < 2 ^ 64
    → SeenWritten s at (to_le_bytes w64 v) (Ok tt) now → Reached ran touched s (Stored at v ∷ []) now
store-word at v s now even small d =
    let one = doublewords_stored 8 8 at (to_le_bytes w64 v) d.accesses even (eight-of v) d.is_one d.spell in
    let is : d.accesses ≡ Stored at v ∷ [] =
    one.is ∙ ap (λ (n : ℕ). Stored at n ∷ []) (same-word v one.value small one.fits one.bytes_are) in
    subst (λ (l : List Access). Reached ran touched s l now) is d.path

-- its write was refused: it was not made, or it was
abbrev pub Cut : System → ℕ → ℕ → System → Type 0
Cut s at v now = ((n : ℕ) × ran s n now) ⊎ Reached ran touched s (Stored at v ∷ []) now

cut-word : (at v : ℕ) (s now last : System) (xs more : List Access) → at % 8 ≡ 0 → v < 2 ^ 64
    → OneStore at (to_le_bytes w64 v) (xs ++ more) → Reached ran touched s xs last → now ≡ last → Cut s at v now
cut-word at v s now last xs more even small one path same =
    let is : xs ++ more ≡ Stored at v ∷ [] =
    one.is ∙ ap (λ (n : ℕ). Stored at n ∷ []) (same-word v one.value small one.fits one.bytes_are) in
    elim (front-of xs more (Stored at v) is) [
      | inl none ↦
          let r : Reached ran touched s [] last = subst (λ (l : List Access). Reached ran touched s l last) none path in
          inl (r.0, subst (λ (z : System). ran s r.0 z) (sym same) r.1)
      | inr all ↦ inr (subst (λ (z : System). Reached ran touched s (Stored at v ∷ []) z) (sym same)
          (subst (λ (l : List Access). Reached ran touched s l last) all path))
    ]

pub stop-word : (at v : ℕ) (s now : System) (why : MemStop) → at % 8 ≡ 0 → v < 2 ^ 64
    → SeenWritten s at (to_le_bytes w64 v) (Err why) now → Cut s at v now
stop-word at v s now (Unmapped place) even small d = inl (0, d ∙ sym (hart_after-zero s))
stop-word at v s now Spent even small d =
    cut-word at v s now d.last d.accesses d.more even small
    (doublewords_stored 8 8 at (to_le_bytes w64 v) (d.accesses ++ d.more) even
    (eight-of v) d.is_one d.spell) d.path d.stands_so
stop-word at v s now WireFault even small d =
    cut-word at v s now d.last d.accesses d.more even small
    (doublewords_stored 8 8 at (to_le_bytes w64 v) (d.accesses ++ d.more) even
    (eight-of v) d.is_one d.spell) d.path d.stands_so
stop-word at v s now (CmdErr number) even small d = absurd d

-- ---- reads
module _ (advance : StepsAdvance) (c : CallState) (user : List ℕ) where
  waiting-ran : (s v : System) (n : ℕ) → Waiting c user s → ran s n v → Waiting c user v
  waiting-ran s v n w r = stays-ran advance c user s v n w r

  -- a refused read of anything leaves the kernel waiting
  pub read-stopped : (s now : System) (at count : ℕ) (why : MemStop) → Waiting c user s
      → SeenRead s at count (Err why) now → Waiting c user now
  read-stopped s now at count (Unmapped place) w d = subst (λ (z : System). Waiting c user z) (sym d) w
  read-stopped s now at count Spent w d =
      subst (λ (z : System). Waiting c user z) (sym d.stands_so)
      (reads-keep (λ z. Waiting c user z) waiting-ran 8 at d.bytes d.accesses d.more s d.last d.spell d.path w)
  read-stopped s now at count WireFault w d =
      subst (λ (z : System). Waiting c user z) (sym d.stands_so)
      (reads-keep (λ z. Waiting c user z) waiting-ran 8 at d.bytes d.accesses d.more s d.last d.spell d.path w)
  read-stopped s now at count (CmdErr number) w d = absurd d

  -- a word that stands while the kernel waits
  word-read : (at value : ℕ) (s now : System) (bytes : List ℕ) → at % 8 ≡ 0
      → ((z : System) (found : ℕ) → Waiting c user z → beat z.bus at ≡ Some found → found ≡ value)
      → Waiting c user s → SeenRead s at 8 (Ok bytes) now → Waiting c user now × (from_le_bytes w64 bytes ≡ value)
  word-read at value s now bytes even gives w d =
      let got = words-read (λ z. Waiting c user z) waiting-ran (value ∷ []) at bytes d.accesses s now even
      (gives, tt) d.size d.spell d.path w in
      (got.0, word-of bytes value got.1)

  pub tohost-read : (s now : System) (bytes : List ℕ) → Waiting c user s → SeenRead s tohost 8 (Ok bytes) now
      → Waiting c user now × (from_le_bytes w64 bytes ≡ c.tohost)
  tohost-read s now bytes w d =
      word-read tohost c.tohost s now bytes refl
      (λ z found h e. kernel-beat z.bus tohost found refl (omega arith) (omega arith) e ∙ sym h.holds.every.tohost_is
      ∙ h.tohost_is) w d

  pub fromhost-read : (s now : System) (bytes : List ℕ) → Waiting c user s → SeenRead s fromhost 8 (Ok bytes) now
      → Waiting c user now × (from_le_bytes w64 bytes ≡ 0)
  fromhost-read s now bytes w d =
      word-read fromhost 0 s now bytes refl
      (λ z found h e. kernel-beat z.bus fromhost found refl (omega arith) (omega arith) e
      ∙ sym h.holds.every.fromhost_is ∙ h.unanswered) w d

  -- the request
  pub request-read : (s now : System) (bytes : List ℕ) → Waiting c user s → SeenRead s request 64 (Ok bytes) now
      → Waiting c user now × (doublewords 8 bytes ≡ c.request)
  request-read s now bytes w d =
      let stays : (z : System) → Waiting c user z → request_of z.bus ≡ request_of s.bus =
      λ z h. sym h.holds.every.request_is ∙ h.request_is ∙ sym w.request_is ∙ w.holds.every.request_is in
      let gives : Gives (λ z. Waiting c user z) waiting-ran request (request_of s.bus) = (
        (λ z found h e. kernel-beat z.bus request found refl (omega arith) (omega arith) e
            ∙ ap (λ (l : List ℕ). slice_index l 0) (stays z h)),
        (
          (λ z found h e. kernel-beat z.bus (request + 8) found refl (omega arith) (omega arith) e
              ∙ ap (λ (l : List ℕ). slice_index l 1) (stays z h)),
          (
            (λ z found h e. kernel-beat z.bus (request + 16) found refl (omega arith) (omega arith) e
                ∙ ap (λ (l : List ℕ). slice_index l 2) (stays z h)),
            (
              (λ z found h e. kernel-beat z.bus (request + 24) found refl (omega arith) (omega arith) e
                  ∙ ap (λ (l : List ℕ). slice_index l 3) (stays z h)),
              (
                (λ z found h e. kernel-beat z.bus (request + 32) found refl (omega arith) (omega arith) e
                    ∙ ap (λ (l : List ℕ). slice_index l 4) (stays z h)),
                (
                  (λ z found h e. kernel-beat z.bus (request + 40) found refl (omega arith) (omega arith) e
                      ∙ ap (λ (l : List ℕ). slice_index l 5) (stays z h)),
                  (
                    (λ z found h e. kernel-beat z.bus (request + 48) found refl (omega arith) (omega arith) e
                        ∙ ap (λ (l : List ℕ). slice_index l 6) (stays z h)),
                    (
                      (λ z found h e. kernel-beat z.bus (request + 56) found refl (omega arith) (omega arith) e
                          ∙ ap (λ (l : List ℕ). slice_index l 7) (stays z h)),
                      tt,
                    ),
                  ),
                ),
              ),
            ),
          ),
        ),
      ) in
      let got = words-read (λ z. Waiting c user z) waiting-ran
      (request_of s.bus) request bytes d.accesses s now refl gives d.size d.spell d.path w in
      (got.0, got.1 ∙ sym w.holds.every.request_is ∙ w.request_is)

-- ---- writes
module _ (writes : HostWritesHold) (c : CallState) (user : List ℕ) (s now : System) (w : Waiting c user s) where
  asked : mail_class w.phase.kind ≡ Asked
  asked = ap mail_class w.kind

  -- what a write of the host to a word of the kernel area leaves
  record Put (at value : ℕ) : Type 0 where
    holds : Holds (written at value w.phase) now
    user_is : now.bus.user ≡ user
    steps_are : now.hart.user_steps ≡ c.steps
    fits : IsSystem now

  put-word : (at value : ℕ) → at % 8 ≡ 0 → kernel_start ≤ at → at + 8 ≤ kernel_end → value < 2 ^ 64
      → HostWrite at value w.phase → touched s (Stored at value) now → Put at value
  put-word at value even low high small may t =
      let hart_is : now.hart ≡ s.hart = ap (λ (z : System). z.hart) t in
      record {
        holds = subst (λ (z : System). Holds (written at value w.phase) z) (sym t)
            (writes w.phase s at value small w.fits.bus_fits may w.holds);
        user_is = ap (λ (z : System). z.bus.user) t ∙ put-kernel s.bus at value even low high ∙ w.user_is;
        steps_are = ap (λ (h : HartState). h.user_steps) hart_is ∙ w.steps_are;
        fits = subst (λ (z : System). IsSystem z) (sym t)
            (record { hart_fits = w.fits.hart_fits; bus_fits = IsBus-with_beat s.bus at value small w.fits.bus_fits });
      }

  tohost-cleared : touched s (Stored tohost 0) now → Waiting (with_tohost 0 c) user now
  tohost-cleared t =
      let p = put-word tohost 0 refl (omega arith) (omega arith) (omega arith) (Clears refl refl) t in
      record {
        phase = written tohost 0 w.phase;
        holds = p.holds;
        kind = w.kind;
        tohost_is = refl;
        unanswered = w.unanswered;
        program_is = w.program_is;
        request_is = w.request_is;
        user_is = p.user_is;
        steps_are = p.steps_are;
        fits = p.fits;
      }

  result-put : (value : ℕ) → value < 2 ^ 64 → touched s (Stored request value) now
      → Waiting (with_result value c) user now
  result-put value small t =
      let p = put-word request value refl (omega arith) (omega arith) small (Results refl asked) t in
      record {
        phase = written request value w.phase;
        holds = p.holds;
        kind = w.kind;
        tohost_is = w.tohost_is;
        unanswered = w.unanswered;
        program_is = w.program_is;
        request_is = ap (λ (l : List ℕ). slice_set l 0 value) w.request_is;
        user_is = p.user_is;
        steps_are = p.steps_are;
        fits = p.fits;
      }

  answer-put : c.tohost ≡ 0 → touched s (Stored fromhost call_answer) now → IsAnswered c user now
  answer-put empty t =
      let some : call_answer ≢ 0 = λ e. let no : ⊥ = cc in no in
      let p = put-word fromhost call_answer refl (omega arith) (omega arith) (omega arith)
      (Answers refl some asked (w.tohost_is ∙ empty) w.unanswered) t in
      record {
        phase = written fromhost call_answer w.phase;
        holds = p.holds;
        kind = w.kind;
        tohost_is = w.tohost_is ∙ empty;
        fromhost_is = refl;
        program_is = w.program_is;
        request_is = w.request_is;
        user_is = p.user_is;
        steps_are = p.steps_are;
        fits = p.fits;
      }

module _ (advance : StepsAdvance) (writes : HostWritesHold) (c : CallState) (user : List ℕ) (s now : System)
    (w : Waiting c user s) where
  -- the word was written, and what the hart does then keeps waiting
  pub tohost-written : Reached ran touched s (Stored tohost 0 ∷ []) now → Waiting (with_tohost 0 c) user now
  tohost-written r =
      let put = tohost-cleared writes c user r.1 r.2 (stays-ran advance c user s r.1 r.0 w r.3) r.4 in
      stays-ran advance (with_tohost 0 c) user r.2 now r.5.0 put r.5.1

  pub result-written : (value : ℕ) → value < 2 ^ 64 → Reached ran touched s (Stored request value ∷ []) now
      → Waiting (with_result value c) user now
  result-written value small r =
      let put = result-put writes c user r.1 r.2 (stays-ran advance c user s r.1 r.0 w r.3) value small r.4 in
      stays-ran advance (with_result value c) user r.2 now r.5.0 put r.5.1

  -- the answer was written, and the hart went on
  pub answer-written : c.tohost ≡ 0 → Reached ran touched s (Stored fromhost call_answer ∷ []) now → (mid : System)
      × (steps : ℕ) × IsAnswered c user mid × ran mid steps now
  answer-written empty r =
      let put = answer-put writes c user r.1 r.2 (stays-ran advance c user s r.1 r.0 w r.3) empty r.4 in
      (r.2, r.5.0, put, r.5.1)
