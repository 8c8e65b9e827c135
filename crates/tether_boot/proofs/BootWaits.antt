-- The kernel that waits for its main vars: what its steps keep, and what the host reads and writes meanwhile.
use Rattle.std.proofs.Common.{◌≡◌, ◌≢◌, ◌≤◌, ◌<◌, ◌+◌, ◌-◌, ◌%◌, ◌^◌, ℕ, zero, suc, inr, List, [], ◌∷◌, ◌++◌}
use Rattle.std.proofs.Common.{refl, sym, ap, subst, ◌∙◌, arith}
use Rattle.std.specs.Prelude.{get_or, slice_index, slice_set, length, Some, Ok, Err}
use Rattle.std.specs.Int.{to_le_bytes, from_le_bytes, w64}
use Rattle.chunk_memory.proofs.AreaRanges.{area_ranges}
use Rattle.chunk_memory.proofs.WordLemmas.{number-of}
use Rattle.chunk_memory.specs.RangeLaws.{KeepsArea, KeepsRanges}
use Rattle.chunk_memory.specs.Reached.{Reached}
use Rattle.chunk_memory.specs.Spelling.{SpellsWrite, StoredFits, place_of, stored_at, stored_bytes}
use Rattle.chunk_memory.specs.declared.stops.MemStop.{MemStop}
use Rattle.chunk_memory.specs.declared.stops.MemStop.TheVariants.{Unmapped, Spent, WireFault, CmdErr}
use Rattle.elf_loader.specs.declared.image.Image.{Image}
use Rattle.fe_base.specs.Access.{Access, Loaded, Stored, StoredLow, StoredHigh}
use Rattle.fe_base.specs.MemoryMap.{boot, fromhost, kernel_end, kernel_start, request, start_word, tohost, user_end}
use Rattle.fe_base.specs.MemoryMap.{user_start}
use Rattle.guest_memory.proofs.AreaLemmas.{is_ram-user, is_ram-kernel, bus_load-user, bus_load-kernel}
use Rattle.guest_memory.proofs.AreaLemmas.{bus_store-kernel, IsBus-with_beat}
use Rattle.guest_memory.proofs.BusLemmas.{kernel_size-is, user_size-is, is_beat-ram, beat-ram, with_beat-ram}
use Rattle.guest_memory.proofs.MemoryLemmas.{stores_leave}
use Rattle.guest_memory.proofs.PartLemmas.{store-is}
use Rattle.guest_memory.specs.Bus.{BusState, beat, with_beat}
use Rattle.guest_memory.specs.Memory.{AreBytes, load, store, with_part}
use Rattle.host_text.specs.World.{World}
use Rattle.htif_mailbox.specs.Turns.{call_answer}
use Rattle.kernel_sim.specs.Advance.{StepsAdvance, HostWritesHold}
use Rattle.kernel_sim.specs.Changes.{UserAfter, StepsCounted, Waits}
use Rattle.kernel_sim.specs.Holds.{Holds}
use Rattle.kernel_sim.specs.HostWrites.{HostWrite, Answers, Clears, Fills, Results, written}
use Rattle.kernel_sim.specs.Kept.{UserKept}
use Rattle.kernel_sim.specs.Mail.{mail_class, Asked}
use Rattle.kernel_sim.specs.Mailbox.{MailboxKept}
use Rattle.kernel_sim.specs.Phases.{dword, next_phase, request_of}
use Rattle.kernel_sim.specs.Rows.{mode_of}
use Rattle.kernel_sim.specs.declared.phase.Phase.{Phase}
use Rattle.kernel_sim.specs.declared.phase.PhaseKind.{PhaseKind}
use Rattle.kernel_sim.specs.declared.phase.PhaseKind.TheVariants.{BootWait}
use Rattle.kernel_sim.specs.declared.phase.UserState.{UserState as Program}
use Rattle.plain_machine.specs.Starts.{Configuration, first_bytes}
use Rattle.rv_csr.specs.declared.privilege.Mode.TheVariants as mode
use Rattle.rv_hart.proofs.RangeLaws.{steps_keep_range}
use Rattle.rv_hart.specs.HartStep.{System, hart_step, over}
use Rattle.rv_hart.specs.Laws.{IsSystem}
use Rattle.rv_hart.specs.Walks.{hart_after}
use Rattle.syscall_proxy.specs.Request.{doublewords}
use Rattle.target_box.specs.Turn.{ran, touched}
use Rattle.tether_base.proofs.Areas.{Gives, no-halves-front, reads-keep, whole, whole-path, words-read, write-no-halves}
use Rattle.tether_base.proofs.Stayed.{put-user}
use Rattle.tether_base.specs.Place.{Book}
use Rattle.tether_base.specs.ToldActs.{SeenRead, SeenWritten}
use Rattle.tether_boot.specs.Booting.{is_answered, IsSetUp}
use Rattle.tether_boot.specs.Booting.{NamesEntry}
use Rattle.tether_boot.specs.Handing.{InBootWait}

-- ---- the boot block
names-by : (image : Image) (old new : BusState)
    → ((place : ℕ) → place % 8 ≡ 0 → 0x8200 ≤ place → load new.kernel place 8 ≡ load old.kernel place 8)
    → NamesEntry image old → NamesEntry image new
names-by image old new same n = record {
  entry_is = bus_load-kernel new boot 8 (omega arith) ∙ same 0x8200 refl (omega arith)
      ∙ sym (bus_load-kernel old boot 8 (omega arith)) ∙ n.entry_is;
  break_is = bus_load-kernel new (boot + 8) 8 (omega arith) ∙ same 0x8208 refl (omega arith)
      ∙ sym (bus_load-kernel old (boot + 8) 8 (omega arith)) ∙ n.break_is;
}

-- a write below it leaves it
put-kernel : (bus : BusState) (at value : ℕ) → at % 8 ≡ 0 → kernel_start ≤ at → at + 8 ≤ kernel_end
    → with_beat bus at value ≡ (record bus { kernel = store bus.kernel (at - kernel_start) 8 value })
put-kernel bus at value even low high =
    let other : at ≢ start_word = λ is. omega arith in
    with_beat-ram bus at value other (is_beat-ram at even (is_ram-kernel at 8 low high))
    ∙ bus_store-kernel bus at 8 value low

kernel-beat : (bus : BusState) (at found : ℕ) → at % 8 ≡ 0 → kernel_start ≤ at → at + 8 ≤ kernel_end → beat bus at
    ≡ Some found → found ≡ dword bus at
kernel-beat bus at found even low high e =
    let other : at ≢ start_word = λ is. omega arith in
    let both : Some found ≡ Some (dword bus at) =
    sym e ∙ beat-ram bus at other (is_beat-ram at even (is_ram-kernel at 8 low high)) in
    cc

word-of : (bytes : List ℕ) (value : ℕ) → doublewords 1 bytes ≡ value ∷ [] → from_le_bytes w64 bytes ≡ value
word-of bytes value e = sym (number-of bytes) ∙ ap (λ (l : List ℕ). get_or l 0 0) e

-- a write to the user area changes no word of the mailbox
unwritten : (at value : ℕ) (p : Phase) → at + 8 ≤ user_end → written at value p ≡ p
unwritten at value p high =
    let a : at ≢ tohost = λ e. omega arith in
    let b : at ≢ fromhost = λ e. omega arith in
    let d : at ≢ request = λ e. omega arith in
    grind (arith, Rattle.std.proofs.lemmas.Bool.Decides.nat_tests)

-- what a step between two kinds says, where both are known
by-kinds : (P : PhaseKind → PhaseKind → Type 0) (k j a b : PhaseKind) → k ≡ a → j ≡ b → P k j → P a b
by-kinds P k j a b e f h = subst (λ z. P a z) f (subst (λ z. P z j) e h)

module _ (c : Configuration) (w : World) (book : Book) where
  -- the kernel waits, and was not answered: TOHOST and REQUEST hold this, and the user area these bytes
  pub record BootHand (word : ℕ) (words user : List ℕ) (sys : System) : Type 0 where
    pub phase : Phase
    pub holds : Holds phase sys
    pub kind : phase.kind ≡ BootWait
    pub set_up : IsSetUp c w book phase sys
    pub tohost_is : phase.tohost ≡ word
    pub unanswered : phase.fromhost ≡ 0
    pub request_is : phase.request ≡ words
    pub user_is : sys.bus.user ≡ user
    pub fits : IsSystem sys

  -- the program's break is the phase's, and the boot block stands
  sets-up : (p q : Phase) (old new : System) → q.user ≡ p.user → new.hart.user_steps ≡ old.hart.user_steps
      → new.hart.mode ≡ mode.Machine → NamesEntry c.image new.bus → IsSetUp c w book p old → IsSetUp c w book q new
  sets-up p q old new same steps machine names s = record {
    booting = record {
      world_is = s.booting.world_is;
      unbegun = record {
        in_machine = machine;
        no_steps = steps ∙ s.booting.unbegun.no_steps;
        noted = s.booting.unbegun.noted;
        silent = s.booting.unbegun.silent;
      };
      names = names;
    };
    program_break = ap (λ (u : Program). u.brk) same ∙ s.program_break;
    first_break = ap (λ (u : Program). u.first_break) same ∙ s.first_break;
  }

  -- ---- steps
  module _ (advance : StepsAdvance) (word : ℕ) (words : List ℕ) where
    stays-boot : (user : List ℕ) (sys : System) → BootHand word words user sys
        → BootHand word words user (hart_step sys)
    stays-boot user sys b =
        let p = b.phase in
        let new = hart_step sys in
        let q = next_phase p new in
        let step = advance p sys b.holds b.fits in
        let a = step.1 in
        let wait : q.kind ≡ BootWait = subst (λ k. Waits k p q) b.kind a.waits b.unanswered in
        let mail = by-kinds (λ k j. MailboxKept k j sys.bus new.bus) p.kind q.kind BootWait BootWait b.kind wait
        a.mailbox in
        let same = by-kinds (λ k j. UserAfter k j p sys new q.user) p.kind q.kind BootWait BootWait b.kind wait
        a.user in
        let machine : new.hart.mode ≡ mode.Machine = step.0.every.mode_is ∙ ap mode_of wait in
        let names = b.set_up.booting.names in
        record {
          phase = q;
          holds = step.0;
          kind = wait;
          set_up = sets-up p q sys new same (subst (λ k. StepsCounted k sys.hart new.hart) b.kind a.counted) machine
              (record { entry_is = a.boot_block.0 ∙ names.entry_is; break_is = a.boot_block.1 ∙ names.break_is })
              b.set_up;
          tohost_is = mail.0 ∙ sym b.holds.every.tohost_is ∙ b.tohost_is;
          unanswered = mail.1 ∙ sym b.holds.every.fromhost_is ∙ b.unanswered;
          request_is = mail.2 ∙ sym b.holds.every.request_is ∙ b.request_is;
          user_is = by-kinds (λ k j. UserKept k j sys.bus new.bus) p.kind q.kind BootWait BootWait b.kind wait
              a.user_bytes ∙ b.user_is;
          fits = steps_keep_range sys b.fits;
        }

    boots-on : (n : ℕ) (user : List ℕ) (sys : System) → BootHand word words user sys
        → BootHand word words user (hart_after n sys)
    unfolding hart_after
    boots-on zero user sys b = b
    boots-on (suc n) user sys b = stays-boot user (hart_after n sys) (boots-on n user sys b)

    pub boots-ran : (user : List ℕ) (sys now : System) (n : ℕ) → BootHand word words user sys → ran sys n now
        → BootHand word words user now
    boots-ran user sys now n b r = subst (λ z. BootHand word words user z) (sym r) (boots-on n user sys b)

    -- ---- reads
    pub read-stopped : (user : List ℕ) (s now : System) (at count : ℕ) (why : MemStop) → BootHand word words user s
        → SeenRead s at count (Err why) now → BootHand word words user now
    read-stopped user s now at count (Unmapped place) b d = subst (λ (z : System). BootHand word words user z) (sym d) b
    read-stopped user s now at count Spent b d =
        subst (λ (z : System). BootHand word words user z) (sym d.stands_so)
        (reads-keep (λ z. BootHand word words user z) (λ x y n h r. boots-ran user x y n h r) 8 at d.bytes d.accesses
        d.more s d.last d.spell d.path b)
    read-stopped user s now at count WireFault b d =
        subst (λ (z : System). BootHand word words user z) (sym d.stands_so)
        (reads-keep (λ z. BootHand word words user z) (λ x y n h r. boots-ran user x y n h r) 8 at d.bytes d.accesses
        d.more s d.last d.spell d.path b)
    read-stopped user s now at count (CmdErr number) b d = absurd d

    pub fromhost-read : (user : List ℕ) (s now : System) (bytes : List ℕ) → BootHand word words user s
        → SeenRead s fromhost 8 (Ok bytes) now → BootHand word words user now × (from_le_bytes w64 bytes ≡ 0)
    fromhost-read user s now bytes b d =
        let gives : (z : System) (found : ℕ) → BootHand word words user z → beat z.bus fromhost ≡ Some found
        → found ≡ 0 =
        λ z found h e. kernel-beat z.bus fromhost found refl (omega arith) (omega arith) e
        ∙ sym h.holds.every.fromhost_is ∙ h.unanswered in
        let got = words-read (λ z. BootHand word words user z) (λ x y n h r. boots-ran user x y n h r) (0 ∷ []) fromhost
        bytes d.accesses s now refl (gives, tt) d.size d.spell d.path b in
        (got.0, word-of bytes 0 got.1)

    -- a doubleword of the request
    asked-word : (user : List ℕ) (s : System) → BootHand word words user s → (at i : ℕ) → at % 8 ≡ 0 → kernel_start ≤ at
        → at + 8 ≤ kernel_end → ((bus : BusState) → dword bus at ≡ slice_index (request_of bus) i)
        → (z : System) (found : ℕ) → BootHand word words user z → beat z.bus at ≡ Some found
        → found ≡ slice_index (request_of s.bus) i
    asked-word user s b at i even low high there z found h e =
        let same : request_of z.bus ≡ request_of s.bus =
        sym h.holds.every.request_is ∙ h.request_is ∙ sym b.request_is ∙ b.holds.every.request_is in
        kernel-beat z.bus at found even low high e ∙ there z.bus ∙ ap (λ (l : List ℕ). slice_index l i) same

    pub request-read : (user : List ℕ) (s now : System) (bytes : List ℕ) → BootHand word words user s
        → SeenRead s request 64 (Ok bytes) now → BootHand word words user now × (doublewords 8 bytes ≡ words)
    request-read user s now bytes b d =
        let one = asked-word user s b in
        let gives : Gives (λ z. BootHand word words user z) (λ x y n h r. boots-ran user x y n h r) request
        (request_of s.bus) = (
          one request 0 refl (omega arith) (omega arith) (λ bus. refl),
          (
            one (request + 8) 1 refl (omega arith) (omega arith) (λ bus. refl),
            (
              one (request + 16) 2 refl (omega arith) (omega arith) (λ bus. refl),
              (
                one (request + 24) 3 refl (omega arith) (omega arith) (λ bus. refl),
                (
                  one (request + 32) 4 refl (omega arith) (omega arith) (λ bus. refl),
                  (
                    one (request + 40) 5 refl (omega arith) (omega arith) (λ bus. refl),
                    (
                      one (request + 48) 6 refl (omega arith) (omega arith) (λ bus. refl),
                      (one (request + 56) 7 refl (omega arith) (omega arith) (λ bus. refl), tt),
                    ),
                  ),
                ),
              ),
            ),
          ),
        ) in
        let got = words-read (λ z. BootHand word words user z) (λ x y n h r. boots-ran user x y n h r)
        (request_of s.bus) request bytes d.accesses s now refl gives d.size d.spell d.path b in
        (got.0, got.1 ∙ sym b.holds.every.request_is ∙ b.request_is)

  -- ---- writes
  module _ (writes : HostWritesHold) (word : ℕ) (words : List ℕ) where
    asked : (user : List ℕ) (s : System) → (b : BootHand word words user s) → mail_class b.phase.kind ≡ Asked
    asked user s b = ap mail_class b.kind

    -- a doubleword of the user area
    pub user-put : (user : List ℕ) (s : System) (at value : ℕ) → at % 8 ≡ 0 → user_start ≤ at → at + 8 ≤ user_end
        → value < 2 ^ 64 → BootHand word words user s
        → BootHand word words (store user (at - user_start) 8 value) (over (with_beat s.bus at value) s.hart)
    user-put user s at value even low high small b =
        let p = b.phase in
        let now : System = over (with_beat s.bus at value) s.hart in
        let bus_is = put-user s.bus at value even low high in
        let held = writes p s at value small b.fits.bus_fits (Fills low (omega arith) (asked user s b)) b.holds in
        let kernel_is : (with_beat s.bus at value).kernel ≡ s.bus.kernel = ap (λ (z : BusState). z.kernel) bus_is in
        record {
          phase = p;
          holds = subst (λ (z : Phase). Holds z now) (unwritten at value p high) held;
          kind = b.kind;
          set_up = sets-up p p s now refl refl b.set_up.booting.unbegun.in_machine
              (names-by c.image s.bus now.bus (λ place even far. ap (λ (l : List ℕ). load l place 8) kernel_is)
              b.set_up.booting.names) b.set_up;
          tohost_is = b.tohost_is;
          unanswered = b.unanswered;
          request_is = b.request_is;
          user_is = ap (λ (z : BusState). z.user) bus_is
              ∙ ap (λ (l : List ℕ). store l (at - user_start) 8 value) b.user_is;
          fits = record {
            hart_fits = b.fits.hart_fits;
            bus_fits = IsBus-with_beat s.bus at value small b.fits.bus_fits;
          };
        }

    -- what a write of the host to a word of the mailbox leaves
    pub record Put (user : List ℕ) (phase : Phase) (at value : ℕ) (now : System) : Type 0 where
      pub holds : Holds (written at value phase) now
      pub set_up : IsSetUp c w book (written at value phase) now
      pub user_is : now.bus.user ≡ user
      pub fits : IsSystem now

    put-word : (user : List ℕ) (s now : System) (b : BootHand word words user s) (at value : ℕ) → at % 8 ≡ 0
        → kernel_start ≤ at → at + 8 ≤ boot → value < 2 ^ 64 → HostWrite at value b.phase
        → (written at value b.phase).user ≡ b.phase.user → touched s (Stored at value) now
        → Put user b.phase at value now
    put-word user s now b at value even low high small may same t =
        let bus_is = put-kernel s.bus at value even low (omega arith) in
        let next : System = over (with_beat s.bus at value) s.hart in
        let area : (with_beat s.bus at value).kernel ≡ store s.bus.kernel (at - kernel_start) 8 value =
        ap (λ (z : BusState). z.kernel) bus_is in
        let room : at - kernel_start + 8 ≤ length s.bus.kernel =
        omega (arith, b.fits.bus_fits.kernel_length, kernel_size-is) in
        let P : System → Type 0 = λ z. Put user b.phase at value z in
        subst P (sym t) (record {
          holds = writes b.phase s at value small b.fits.bus_fits may b.holds;
          set_up = sets-up b.phase (written at value b.phase) s next same refl b.set_up.booting.unbegun.in_machine
              (names-by c.image s.bus next.bus (λ place even far. ap (λ (l : List ℕ). load l place 8) area
              ∙ stores_leave s.bus.kernel (at - kernel_start) 8 value place 8 room (inr (omega arith)))
              b.set_up.booting.names) b.set_up;
          user_is = ap (λ (z : BusState). z.user) bus_is ∙ b.user_is;
          fits = record {
            hart_fits = b.fits.hart_fits;
            bus_fits = IsBus-with_beat s.bus at value small b.fits.bus_fits;
          };
        })

    tohost-put : (user : List ℕ) (s now : System) → BootHand word words user s → touched s (Stored tohost 0) now
        → BootHand 0 words user now
    tohost-put user s now b t =
        let put = put-word user s now b tohost 0 refl (omega arith) (omega arith) (omega arith) (Clears refl refl) refl
        t in
        record {
          phase = written tohost 0 b.phase;
          holds = put.holds;
          kind = b.kind;
          set_up = put.set_up;
          tohost_is = refl;
          unanswered = b.unanswered;
          request_is = b.request_is;
          user_is = put.user_is;
          fits = put.fits;
        }

    result-put : (user : List ℕ) (value : ℕ) (s now : System) → value < 2 ^ 64 → BootHand word words user s
        → touched s (Stored request value) now → BootHand word (slice_set words 0 value) user now
    result-put user value s now small b t =
        let put = put-word user s now b request value refl (omega arith) (omega arith) small
        (Results refl (asked user s b)) refl t in
        record {
          phase = written request value b.phase;
          holds = put.holds;
          kind = b.kind;
          set_up = put.set_up;
          tohost_is = b.tohost_is;
          unanswered = b.unanswered;
          request_is = ap (λ (l : List ℕ). slice_set l 0 value) b.request_is;
          user_is = put.user_is;
          fits = put.fits;
        }

    answer-put : (s now : System) → word ≡ 0 → BootHand word words (first_bytes c.image c.args) s
        → touched s (Stored fromhost call_answer) now → InBootWait c w book [] now
    answer-put s now empty b t =
        let some : call_answer ≢ 0 = λ e. let no : ⊥ = cc in no in
        let user : List ℕ = first_bytes c.image c.args in
        let put = put-word user s now b fromhost call_answer refl (omega arith) (omega arith) (omega arith)
        (Answers refl some (asked user s b) (b.tohost_is ∙ empty) b.unanswered) refl t in
        record {
          phase = written fromhost call_answer b.phase;
          holds = put.holds;
          kind = b.kind;
          behind = (put.set_up, is_answered refl some put.user_is);
          fits = put.fits;
        }

  -- ---- one store, and the user area
  module _ (advance : StepsAdvance) (writes : HostWritesHold) (word : ℕ) (words : List ℕ) where
    pub tohost-written : (user : List ℕ) (s now : System) → BootHand word words user s
        → Reached ran touched s (Stored tohost 0 ∷ []) now → BootHand 0 words user now
    tohost-written user s now b r =
        let put = tohost-put writes word words user r.1 r.2 (boots-ran advance word words user s r.1 r.0 b r.3) r.4 in
        boots-ran advance 0 words user r.2 now r.5.0 put r.5.1

    pub result-written : (user : List ℕ) (value : ℕ) (s now : System) → value < 2 ^ 64 → BootHand word words user s
        → Reached ran touched s (Stored request value ∷ []) now → BootHand word (slice_set words 0 value) user now
    result-written user value s now small b r =
        let put = result-put writes word words user value r.1 r.2 small
        (boots-ran advance word words user s r.1 r.0 b r.3) r.4 in
        boots-ran advance word (slice_set words 0 value) user r.2 now r.5.0 put r.5.1

    pub answer-written : (s now : System) → word ≡ 0 → BootHand word words (first_bytes c.image c.args) s
        → Reached ran touched s (Stored fromhost call_answer ∷ []) now → (mid : System) × (steps : ℕ)
        × InBootWait c w book [] mid × ran mid steps now
    answer-written s now empty b r =
        let put = answer-put writes word words r.1 r.2 empty
        (boots-ran advance word words (first_bytes c.image c.args) s r.1 r.0 b r.3) r.4 in
        (r.2, r.5.0, put, r.5.1)

    user-load : (user : List ℕ) (s v : System) (place value : ℕ) → place % 8 ≡ 0 → user_start ≤ place → place
        + 8 ≤ user_start + 0x1000000 → BootHand word words user s
        → whole s (Loaded place value) v → BootHand word words user v × (value ≡ load user (place - user_start) 8)
    user-load user s v place value even low high b t =
        let other : place ≢ start_word = λ e. omega arith in
        let known : beat s.bus place ≡ Some (load s.bus.user (place - user_start) 8) =
        beat-ram s.bus place other (is_beat-ram place even (is_ram-user place 8 low (omega arith)))
        ∙ ap (λ (n : ℕ). Some n) (bus_load-user s.bus place 8 (omega arith)) in
        let both : Some value ≡ Some (load s.bus.user (place - user_start) 8) = sym t.1 ∙ known in
        let is : value ≡ load s.bus.user (place - user_start) 8 = cc in (
          subst (λ (z : System). BootHand word words user z) (sym t.0) b,
          is ∙ ap (λ (l : List ℕ). load l (place - user_start) 8) b.user_is,
        )

    user-store : (user : List ℕ) (s v : System) (store : Access) → StoredFits store → place_of store % 8 ≡ 0
        → user_start ≤ place_of store → place_of store + 8 ≤ user_start + 0x1000000
        → BootHand word words user s → whole s store v
        → BootHand word words (with_part user (stored_at store - user_start) (stored_bytes store)) v
    user-store user s v (Stored place value) fits even low high b t =
        let put = user-put writes word words user s place value even low (omega arith) fits b in
        let same : store user (place - user_start) 8 value
        ≡ with_part user (place - user_start) (to_le_bytes w64 value) =
        store-is user (place - user_start) 8 value in
        subst (λ (z : System). BootHand word words (with_part user (place - user_start) (to_le_bytes w64 value)) z)
        (sym t)
        (subst (λ (l : List ℕ). BootHand word words l (over (with_beat s.bus place value) s.hart)) same put)
    user-store user s v (Loaded place value) fits even low high b t = absurd fits
    user-store user s v (StoredLow place value) fits even low high b t = absurd t
    user-store user s v (StoredHigh place value) fits even low high b t = absurd t

    user-area : KeepsArea ran whole user_start 0x1000000 (λ user s. BootHand word words user s)
    user-area = record {
      even = refl;
      whole = refl;
      long = λ user s b. sym (ap (λ (l : List ℕ). length l) b.user_is) ∙ b.fits.bus_fits.user_length ∙ user_size-is;
      are_bytes = λ user s b. subst AreBytes b.user_is b.fits.bus_fits.user_bytes;
      runs = λ user s v n b r. boots-ran advance word words user s v n b r;
      loads = user-load;
      stores = user-store;
    }

    user-ranges : KeepsRanges ran whole user_start 0x1000000 (λ user s. BootHand word words user s)
    user-ranges = area_ranges ran whole user_start 0x1000000 (λ user s. BootHand word words user s) user-area

    pub user-written : (s v : System) (user : List ℕ) (at : ℕ) (bytes : List ℕ) → user_start ≤ at
        → at + length bytes ≤ user_end → BootHand word words user s → SeenWritten s at bytes (Ok tt) v
        → BootHand word words (with_part user (at - user_start) bytes) v
    user-written s v user at bytes low high b d =
        let path = whole-path d.accesses s v (write-no-halves 8 at bytes d.accesses d.spell) d.path in
        user-ranges.written 8 8 at bytes user d.accesses s v (inr refl) b low (omega (arith, high)) d.spell path

    -- it waits, over some user bytes
    abbrev pub StillBoots : System → Type 0
    StillBoots s = (user : List ℕ) × BootHand word words user s

    write-begun : (s v last : System) (user : List ℕ) (at : ℕ) (bytes : List ℕ) (xs more : List Access)
        → user_start ≤ at → at + length bytes ≤ user_end → BootHand word words user s
        → SpellsWrite 8 8 at bytes (xs ++ more) → Reached ran touched s xs last
        → v ≡ last → StillBoots v
    write-begun s v last user at bytes xs more low high b spelled r same =
        let path = whole-path xs s last
        (no-halves-front xs more (write-no-halves 8 at bytes (xs ++ more) spelled)) r in
        let left = user-ranges.write_begun 8 8 at bytes user xs more s last (inr refl) b low (omega (arith, high))
        spelled path in
        (left.0, subst (λ (z : System). BootHand word words left.0 z) (sym same) left.1)

    pub user-stopped : (s v : System) (user : List ℕ) (at : ℕ) (bytes : List ℕ) (why : MemStop) → user_start ≤ at
        → at + length bytes ≤ user_end → BootHand word words user s → SeenWritten s at bytes (Err why) v → StillBoots v
    user-stopped s v user at bytes (Unmapped place) low high b d =
        (user, subst (λ (z : System). BootHand word words user z) (sym d) b)
    user-stopped s v user at bytes Spent low high b d =
        write-begun s v d.last user at bytes d.accesses d.more low high b d.spell d.path d.stands_so
    user-stopped s v user at bytes WireFault low high b d =
        write-begun s v d.last user at bytes d.accesses d.more low high b d.spell d.path d.stands_so
    user-stopped s v user at bytes (CmdErr number) low high b d = absurd d
