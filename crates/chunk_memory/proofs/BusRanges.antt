-- Ranges of the two areas of a bus.
use Rattle.std.proofs.Common.{◌≤◌, refl, arith}
use Rattle.fe_base.specs.MemoryMap.{user_start, user_end, kernel_start, kernel_end}
use Rattle.guest_memory.specs.Bus.{BusState, IsBus, user_size, kernel_size}
use Rattle.chunk_memory.proofs.RamBytes.{Has, area-read, area-written}
use Rattle.chunk_memory.proofs.RamLemmas.{user_area, kernel_area}
use Rattle.chunk_memory.proofs.Stays.{one-load, one-store}
use Rattle.chunk_memory.specs.RangeLaws.{DoublewordsLoaded, DoublewordsStored, BusReadsUser, BusReadsKernel, BusWritesUser, BusWritesKernel}

pub doublewords_loaded : DoublewordsLoaded
doublewords_loaded cut at bytes accesses even eight one spelled = one-load cut at bytes accesses even eight one spelled

pub doublewords_stored : DoublewordsStored
doublewords_stored unit cut at bytes accesses even eight one spelled = one-store unit cut at bytes accesses even eight one spelled

user-order : user_start ≤ user_end
user-order = omega arith

kernel-order : kernel_start ≤ kernel_end
kernel-order = omega arith

user-has : (bus : BusState) → IsBus bus → Has user_start user_end refl refl user-order user_area bus bus.user bus
unfolding user_area user_size
user-has bus fits = record { is = refl; long = fits.user_length; small = fits.user_bytes }

kernel-has : (bus : BusState) → IsBus bus → Has kernel_start kernel_end refl refl kernel-order kernel_area bus bus.kernel bus
unfolding kernel_area kernel_size
kernel-has bus fits = record { is = refl; long = fits.kernel_length; small = fits.kernel_bytes }

pub bus_reads_user : BusReadsUser
unfolding user_area
bus_reads_user at count bytes before after fits low high read =
    let got = area-read user_start user_end refl refl user-order user_area before at count bytes before.user before after (user-has before fits) low high read in
    (got.0.is, got.1)

pub bus_reads_kernel : BusReadsKernel
unfolding kernel_area
bus_reads_kernel at count bytes before after fits low high read =
    let got = area-read kernel_start kernel_end refl refl kernel-order kernel_area before at count bytes before.kernel before after (kernel-has before fits) low high read in
    (got.0.is, got.1)

pub bus_writes_user : BusWritesUser
unfolding user_area
bus_writes_user at bytes before after fits low high written =
    (area-written user_start user_end refl refl user-order user_area before at bytes before.user before after (user-has before fits) low high written).is

pub bus_writes_kernel : BusWritesKernel
unfolding kernel_area
bus_writes_kernel at bytes before after fits low high written =
    (area-written kernel_start kernel_end refl refl kernel-order kernel_area before at bytes before.kernel before after (kernel-has before fits) low high written).is
