-- Each place has a name.
use Rattle.std.proofs.Common.{◌≡◌, true, refl}
use Rattle.asm_items.specs.Names.{is_name}
use Rattle.proxy_kernel.specs.Kernel.{name_of}
use Rattle.proxy_kernel.specs.declared.rows.Place.{Place}
use Rattle.proxy_kernel.specs.declared.rows.Place.TheVariants as place

pub name_of_is_name : (at : Place) → is_name (name_of at) ≡ true
unfolding is_name
name_of_is_name place.Boot = refl
name_of_is_name place.BootWait = refl
name_of_is_name place.BootTake = refl
name_of_is_name place.Leave = refl
name_of_is_name place.Save = refl
name_of_is_name place.Check = refl
name_of_is_name place.OneArgument = refl
name_of_is_name place.TwoArguments = refl
name_of_is_name place.ThreeArguments = refl
name_of_is_name place.StatBuffer = refl
name_of_is_name place.Buffer = refl
name_of_is_name place.BufferAt = refl
name_of_is_name place.Lowered = refl
name_of_is_name place.CheckRange = refl
name_of_is_name place.Scan = refl
name_of_is_name place.ScanNext = refl
name_of_is_name place.UnknownCall = refl
name_of_is_name place.BadAddress = refl
name_of_is_name place.LongPath = refl
name_of_is_name place.MoveBreak = refl
name_of_is_name place.TellBreak = refl
name_of_is_name place.Scanned = refl
name_of_is_name place.PutLength = refl
name_of_is_name place.Fill = refl
name_of_is_name place.Wait = refl
name_of_is_name place.Take = refl
name_of_is_name place.Restore = refl
name_of_is_name place.Speak = refl
name_of_is_name place.CounterText = refl
name_of_is_name place.TrapText = refl
name_of_is_name place.EndText = refl
name_of_is_name place.PutNumber = refl
name_of_is_name place.PutByte = refl
name_of_is_name place.PutWait = refl
name_of_is_name place.Close = refl
name_of_is_name place.CloseWait = refl
name_of_is_name place.Idle = refl
