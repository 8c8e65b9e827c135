-- The kernel as a list of items: the rows of its text, each as the item that it stands for.
use Rattle.std.specs.Prelude.{ℕ, List, [], ◌∷◌, codes}
use Rattle.rv_decode.specs.declared.instruction.Insn.TheVariants as insn
use Rattle.rv_decode.specs.declared.instruction.Cond.TheVariants.{Eq, Ne, Ltu, Geu}
use Rattle.asm_items.specs.declared.item.Item.{Item}
use Rattle.asm_items.specs.declared.item.Item.TheVariants.{Plain, Branch, Jump, Address, Label}
use Rattle.proxy_kernel.specs.declared.rows.Place.{Place}
use Rattle.proxy_kernel.specs.declared.rows.Place.TheVariants as place
use Rattle.proxy_kernel.specs.declared.rows.Row.{Row}
use Rattle.proxy_kernel.specs.declared.rows.Row.TheVariants as row
use Rattle.proxy_kernel.specs.declared.list.TheConstants.{KERNEL}

-- the name of a place
abbrev pub name_of : Place → List ℕ
name_of place.Boot = codes "boot"
name_of place.BootWait = codes "boot_wait"
name_of place.BootTake = codes "boot_take"
name_of place.Leave = codes "leave"
name_of place.Save = codes "save"
name_of place.Check = codes "check"
name_of place.OneArgument = codes "one_argument"
name_of place.TwoArguments = codes "two_arguments"
name_of place.ThreeArguments = codes "three_arguments"
name_of place.StatBuffer = codes "stat_buffer"
name_of place.Buffer = codes "buffer"
name_of place.BufferAt = codes "buffer_at"
name_of place.Lowered = codes "lowered"
name_of place.CheckRange = codes "check_range"
name_of place.Scan = codes "scan"
name_of place.ScanNext = codes "scan_next"
name_of place.UnknownCall = codes "unknown_call"
name_of place.BadAddress = codes "bad_address"
name_of place.LongPath = codes "long_path"
name_of place.MoveBreak = codes "move_break"
name_of place.TellBreak = codes "tell_break"
name_of place.Scanned = codes "scanned"
name_of place.PutLength = codes "put_length"
name_of place.Fill = codes "fill"
name_of place.Wait = codes "wait"
name_of place.Take = codes "take"
name_of place.Restore = codes "restore"
name_of place.Speak = codes "speak"
name_of place.CounterText = codes "counter_text"
name_of place.TrapText = codes "trap_text"
name_of place.EndText = codes "end_text"
name_of place.PutNumber = codes "put_number"
name_of place.PutByte = codes "put_byte"
name_of place.PutWait = codes "put_wait"
name_of place.Close = codes "close"
name_of place.CloseWait = codes "close_wait"
name_of place.Idle = codes "idle"

-- the item of a row; a load, a store and JALR are written with the offset before the base register
abbrev pub item_of : Row → Item
item_of (row.Label at) = Label (name_of at)
item_of (row.Lui rd imm) = Plain (insn.Lui rd imm)
item_of (row.Auipc rd imm) = Plain (insn.Auipc rd imm)
item_of (row.Addi rd rs1 imm) = Plain (insn.Addi rd rs1 imm)
item_of (row.Sltiu rd rs1 imm) = Plain (insn.Sltiu rd rs1 imm)
item_of (row.Andi rd rs1 imm) = Plain (insn.Andi rd rs1 imm)
item_of (row.Slli rd rs1 amount) = Plain (insn.Slli rd rs1 amount)
item_of (row.Srli rd rs1 amount) = Plain (insn.Srli rd rs1 amount)
item_of (row.Add rd rs1 rs2) = Plain (insn.Add rd rs1 rs2)
item_of (row.Sub rd rs1 rs2) = Plain (insn.Sub rd rs1 rs2)
item_of (row.Srl rd rs1 rs2) = Plain (insn.Srl rd rs1 rs2)
item_of (row.Ld rd imm rs1) = Plain (insn.Ld rd rs1 imm)
item_of (row.Lbu rd imm rs1) = Plain (insn.Lbu rd rs1 imm)
item_of (row.Sd rs2 imm rs1) = Plain (insn.Sd rs1 rs2 imm)
item_of (row.Beq rs1 rs2 at) = Branch Eq rs1 rs2 (name_of at)
item_of (row.Bne rs1 rs2 at) = Branch Ne rs1 rs2 (name_of at)
item_of (row.Bltu rs1 rs2 at) = Branch Ltu rs1 rs2 (name_of at)
item_of (row.Bgeu rs1 rs2 at) = Branch Geu rs1 rs2 (name_of at)
item_of (row.Jal rd at) = Jump rd (name_of at)
item_of (row.Jalr rd imm rs1) = Plain (insn.Jalr rd rs1 imm)
item_of (row.La rd at) = Address rd (name_of at)
item_of (row.Csrrw rd csr rs1) = Plain (insn.Csrrw rd rs1 csr)
item_of (row.Csrrs rd csr rs1) = Plain (insn.Csrrs rd rs1 csr)
item_of row.Mret = Plain insn.Mret

-- the items of rows, in order
abbrev pub items_of : List Row → List Item
items_of [] = []
items_of (first ∷ rows) = item_of first ∷ items_of rows

-- the kernel
unfoldable pub kernel : List Item
kernel = items_of KERNEL
