-- The laws of a port to a bus.
use Rattle.std.proofs.Common.{◌≡◌, ℕ, ◌+◌, true, refl, sym, ap, ◌∙◌}
use Rattle.std.specs.Prelude.{Some, unwrap_or}
use Rattle.fe_base.specs.Beats.{ReadBeat, WriteBeat}
use Rattle.fe_base.specs.MemoryMap.{is_beat}
use Rattle.guest_memory.specs.Bus.{BusState, beat, with_beat}
use Rattle.chunk_memory.specs.BeatChunks.{DirectOne}
use Rattle.chunk_memory.specs.BeatLaws.{TurnsMake, direct-one}
use Rattle.chunk_memory.specs.RamTurns.{ram_turn, ram_ran, ram_touched}
use Rattle.chunk_memory.specs.Reached.{Reached, OneReaches, RefusedReaches}

-- ---- the laws of a bus as what beats are made on
pub ram-none : (v : BusState) → ram_ran v 0 v
ram-none v = refl

pub ram-more : (a b c : BusState) (m n : ℕ) → ram_ran a m b → ram_ran b n c → ram_ran a (m + n) c
ram-more a b c m n first second = second ∙ first

beat-some : (bus : BusState) (at : ℕ) → is_beat at ≡ true → beat bus at ≡ Some (unwrap_or (beat bus at) 0)
unfolding beat
beat-some bus at here = rw here refl

pub ram-turns : TurnsMake ram_ran ram_touched ram-none ram-more (λ (s : BusState). s) (λ _. Unit {0}) (λ _. ⊥) ram_turn
ram-turns before after (ReadBeat at) reply ok asked e =
    let same : before ≡ after = ap (λ (p : BusState × ℕ). p.0) e in
    let value : unwrap_or (beat before at) 0 ≡ reply = ap (λ (p : BusState × ℕ). p.1) e in
    record {
      steps = 0;
      between = before;
      pause = refl;
      access = (sym same, beat-some before at asked ∙ ap (λ (n : ℕ). Some n) value);
      still_valid = tt;
      some_step =
          λ p. absurd p;
      still_positive = λ p. p;
    }
ram-turns before after (WriteBeat at value) reply ok asked e =
    let same : with_beat before at value ≡ after = ap (λ (p : BusState × ℕ). p.0) e in
    record {
      steps = 0;
      between = before;
      pause = refl;
      access = sym same;
      still_valid = tt;
      some_step = λ p. absurd p;
      still_positive = λ p. p;
    }

pub ram-one : OneReaches 8 1024 (λ (s : BusState). s) (λ _. Unit {0}) (λ _. Unit {0}) (λ _. ⊥) ram_ran
    (Reached ram_ran ram_touched) (DirectOne ram_turn)
ram-one = direct-one ram_ran ram_touched ram-none ram-more (λ s. s) (λ _. Unit {0}) (λ _. ⊥) ram_turn ram-turns

pub ram-refused : RefusedReaches 8 1024 (λ (s : BusState). s) (λ s v. s ≡ v) (λ _. Unit {0}) (λ _. Unit {0})
    (Reached ram_ran ram_touched) (λ before chunk stop after. ⊥)
ram-refused before after chunk stop ok ready asked cut = absurd cut
