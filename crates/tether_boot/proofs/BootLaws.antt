-- The laws of the start, by the kernel's.
use Rattle.kernel_sim.proofs.AdvanceLaws.{steps_advance, host_writes_hold}
use Rattle.tether_boot.proofs.BootServed as served
use Rattle.tether_boot.proofs.Followed as followed
use Rattle.tether_boot.specs.Booting.{BootStepsFollow}
use Rattle.tether_boot.specs.Handing.{GivesBoot, ServesBoot}

pub boot_steps_follow : BootStepsFollow
boot_steps_follow = followed.boot_steps_follow steps_advance

pub serves_boot : ServesBoot
serves_boot = served.serves_boot steps_advance host_writes_hold

pub gives_boot : GivesBoot
gives_boot = served.gives_boot steps_advance host_writes_hold
