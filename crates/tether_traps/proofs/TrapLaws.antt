-- The laws of a trap, by the kernel's.
use Rattle.kernel_sim.proofs.AdvanceLaws.{steps_advance, host_writes_hold}
use Rattle.tether_traps.proofs.TrapSteps as steps
use Rattle.tether_traps.proofs.TrapWalk as walk
use Rattle.tether_traps.specs.Handling.{WordsAreHandled}
use Rattle.tether_traps.specs.Saying.{TrapHandsStay, TrapStepsFollow, WordsStay}

pub trap_steps_follow : TrapStepsFollow
trap_steps_follow = steps.trap_steps_follow steps_advance

pub trap_hands_stay : TrapHandsStay
trap_hands_stay = steps.trap_hands_stay steps_advance

pub words_stay : WordsStay
words_stay = steps.words_stay steps_advance

pub words_are_handled : WordsAreHandled
words_are_handled = walk.words_are_handled steps_advance host_writes_hold
