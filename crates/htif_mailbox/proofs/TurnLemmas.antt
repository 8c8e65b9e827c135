-- A turn, by its two parts.
use Rattle.std.proofs.Common.{◌≡◌, ℕ, Bool, Result, Ok, Err, sym, subst}
use Rattle.chunk_memory.specs.declared.port.ChunkPort as port
use Rattle.chunk_memory.specs.declared.stops.MemStop.{MemStop}
use Rattle.fe_base.specs.declared.outside.Source as source
use Rattle.fe_base.specs.declared.outside.Sink as sink
use Rattle.folder_tree.specs.declared.folder.Folder as folder
use Rattle.host_text.specs.Laws.{then-ok, then-err}
use Rattle.host_text.specs.Outside.{acts}
use Rattle.host_text.specs.Played.{At, at, Played}
use Rattle.host_text.specs.Text.{then_do}
use Rattle.syscall_proxy.specs.Kept.{Kept, Setting}
use Rattle.htif_mailbox.proofs.AloneLaws.{alone-beside}
use Rattle.htif_mailbox.specs.Alone.{at_memory, memory_alone}
use Rattle.htif_mailbox.specs.Turns.{Mail, after_text, give_text, same_fault, serve_text, turn_text}
use Rattle.htif_mailbox.specs.declared.answers.MailFault.{MailFault}
use Rattle.htif_mailbox.specs.declared.answers.MailFault.TheVariants.{Port}
use Rattle.htif_mailbox.specs.declared.answers.Turned.{Turned}

module _ {P F I C : Type 0} (p : port.Ghosts P) (f : folder.Ghosts F) (i : source.Ghosts I) (c : sink.Ghosts C) where
  -- the part on tohost was refused
  pub turn-refused : (given : Setting) (tohost fromhost : ℕ) (fault : MailFault) {s s' : At P F I C Kept} {q r : Result Turned MailFault}
      → r ≡ Err fault → q ≡ Err fault → Played (acts p f i c) (serve_text given tohost) s q s' → Played (acts p f i c) (turn_text given tohost fromhost) s r s'
  turn-refused given tohost fromhost fault {s = s} {s' = s'} e h l =
      let R : Result Turned MailFault → Type 0 = λ z. Played (acts p f i c) (turn_text given tohost fromhost) s z s' in
      subst R (sym e) (then-err (acts p f i c) same_fault (after_text fromhost) fault {t = serve_text given tohost} h l)

  -- it came to this, and what comes behind it was done
  pub turn-over : (given : Setting) (tohost fromhost : ℕ) (turned : Turned) {s m s' : At P F I C Kept} {q r : Result Turned MailFault}
      → q ≡ Ok turned → Played (acts p f i c) (serve_text given tohost) s q m → Played (acts p f i c) (after_text fromhost turned) m r s' → Played (acts p f i c) (turn_text given tohost fromhost) s r s'
  turn-over given tohost fromhost turned h l next = then-ok (acts p f i c) same_fault (after_text fromhost) turned {t = serve_text given tohost} h l next

  module _ (files : F) (input : I) (console : C) where
    -- an answer was given or not, beside folder, input and console
    pub gave-then : (fromhost : ℕ) {other : ℕ} (k : Bool → Mail) (given : Bool) {m m' : P} {k1 k2 : Kept} {q : Result Bool MemStop} {r : Result Turned MailFault} {s' : At P F I C Kept}
        → other ≡ fromhost → q ≡ Ok given → Played (memory_alone p) (give_text other) (at_memory m k1) q (at_memory m' k2) → Played (acts p f i c) (k given) (at m' files input console k2) r s'
        → Played (acts p f i c) (then_do Port (give_text fromhost) k) (at m files input console k1) r s'
    gave-then fromhost {other = other} k given {m = m} {k1 = k1} {r = r} {s' = s'} same h l next =
        let R : ℕ → Type 0 = λ z. Played (acts p f i c) (then_do Port (give_text z) k) (at m files input console k1) r s' in
        subst R same (then-ok (acts p f i c) Port k given {t = give_text other} h (alone-beside p f i c files input console l) next)

    -- the port refused
    pub give-stopped : (fromhost : ℕ) {other : ℕ} (k : Bool → Mail) (why : MemStop) {m m' : P} {k1 k2 : Kept} {q : Result Bool MemStop} {r : Result Turned MailFault}
        → other ≡ fromhost → r ≡ Err (Port why) → q ≡ Err why → Played (memory_alone p) (give_text other) (at_memory m k1) q (at_memory m' k2)
        → Played (acts p f i c) (then_do Port (give_text fromhost) k) (at m files input console k1) r (at m' files input console k2)
    give-stopped fromhost {other = other} k why {m = m} {m' = m'} {k1 = k1} {k2 = k2} same e h l =
        let R : ℕ → Type 0 = λ z. Played (acts p f i c) (then_do Port (give_text z) k) (at m files input console k1) (Err (Port why)) (at m' files input console k2) in
        let Q : Result Turned MailFault → Type 0 = λ z. Played (acts p f i c) (then_do Port (give_text fromhost) k) (at m files input console k1) z (at m' files input console k2) in
        subst Q (sym e) (subst R same (then-err (acts p f i c) Port k why {t = give_text other} h (alone-beside p f i c files input console l)))
