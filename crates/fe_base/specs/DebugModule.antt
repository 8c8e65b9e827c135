-- The debug module as a wire tells it (External Debug Support 0.13.2; where that version leaves a choice, it is this
-- project's): its registers, what an access of it does, and what it makes of a hart's steps.
use Rattle.std.specs.Prelude.{◌≡◌, ◌≤◌, ◌<◌, ℕ, zero, suc, ◌+◌, ◌-◌, ◌*◌, ◌/◌, ◌%◌, ◌^◌, ◌==◌, ◌&&◌, ◌||◌, Bool, true}
use Rattle.std.specs.Prelude.{false, not, nat_le, nat_lt, if◌then◌else◌, List, [], ◌∷◌, length, slice_index, slice_set}
use Rattle.std.specs.Prelude.{bit_and, ⊤, Result, Ok, Err}
use Rattle.fe_base.specs.Access.{Access, Loaded, Stored}
use Rattle.fe_base.specs.MemoryMap.{is_beat}
use Rattle.fe_base.specs.Outside.{Rose}
use Rattle.fe_base.specs.declared.wires.DmiOp.{DmiOp}
use Rattle.fe_base.specs.declared.wires.DmiOp.TheVariants.{Nop, Read, Write}

-- what a halted hart is to do in its next step: move a register to or from the data registers and then perhaps run the
-- program buffer, or run the buffer alone
pub data DebugJob : Type 0 where
  NoJob : DebugJob
  MoveJob : (register : ℕ) (write then_run : Bool) → DebugJob
  BufferJob : DebugJob

-- what the module holds: dmactive, haltreq, whether a resume is asked, resumeack, the job, the data registers as one
-- number, the program buffer, and cmderr
pub record ModuleState : Type 0 where
  pub active : Bool
  pub haltreq : Bool
  pub resume : Bool
  pub acked : Bool
  pub job : DebugJob
  pub value : ℕ
  pub buffer : List ℕ
  pub cmderr : ℕ

-- the module at reset
abbrev pub reset_module : ModuleState
reset_module = record {
  active = false;
  haltreq = false;
  resume = false;
  acked = false;
  job = NoJob;
  value = 0;
  buffer = 0 ∷ 0 ∷ 0 ∷ 0 ∷ [];
  cmderr = 0;
}

-- each field fits its register, and a module that is not active is as at reset
pub record IsModule (m : ModuleState) : Type 0 where
  pub inactive : m.active ≡ false → m ≡ reset_module
  pub value_fits : m.value < 2 ^ 64
  pub buffer_length : length m.buffer ≡ 4
  pub words_fit : (i : ℕ) → slice_index m.buffer i < 2 ^ 32
  pub cmderr_fits : m.cmderr < 8

-- what is asked of a wire to the module
pub record DmiAsk : Type 0 where
  pub op : DmiOp
  pub address : ℕ
  pub value : ℕ

-- ---- registers
-- the bit of this number
abbrev pub bit : ℕ → ℕ → Bool
bit number word = word / 2 ^ number % 2 == 1

abbrev pub bits_if : Bool → ℕ → ℕ
bits_if condition bits = if condition then bits else 0

-- a job is to be done
abbrev pub is_busy : DebugJob → Bool
is_busy NoJob = false
is_busy (MoveJob register write then_run) = true
is_busy BufferJob = true

-- a data register or a word of the program buffer
abbrev pub is_storage : ℕ → Bool
is_storage address = (address == 0x04 || address == 0x05) || (nat_le 0x20 address && nat_le address 0x23)

-- the word that a data register or the program buffer holds
abbrev pub storage : ModuleState → ℕ → ℕ
storage m address =
    if address == 0x04 then m.value % 2 ^ 32
    else (if address == 0x05 then m.value / 2 ^ 32 else slice_index m.buffer (address - 0x20))

-- the module with another word there
abbrev pub with_storage : ModuleState → ℕ → ℕ → ModuleState
with_storage m address word =
    if address == 0x04 then record m { value = m.value - m.value % 2 ^ 32 + word }
    else (if address == 0x05 then record m { value = m.value % 2 ^ 32 + word * 2 ^ 32 }
    else record m { buffer = slice_set m.buffer (address - 0x20) word })

-- dmstatus (3.12.1): version 2, authenticated, then halted or running and resumeack, each for any hart and for all
abbrev pub dmstatus : ModuleState → Bool → ℕ
dmstatus m halted = 0x82 + (if halted then 0x300 else 0xc00) + bits_if m.acked 0x30000

-- abstractcs (3.12.6): two data registers, cmderr, busy, and four words of the program buffer
abbrev pub abstractcs : ModuleState → ℕ
abstractcs m = 0x4000002 + m.cmderr * 2 ^ 8 + bits_if (is_busy m.job) 0x1000

-- the register that a read of an address gives; while the module is not active, all but dmstatus read 0
abbrev pub register_of : ModuleState → Bool → ℕ → ℕ
register_of m halted address =
    if address == 0x11 then dmstatus m halted
    else (if not m.active then 0
    else (if address == 0x10 then 1
    else (if address == 0x16 then abstractcs m
    else bits_if (is_storage address) (storage m address))))

-- ---- accesses
-- an error is kept where there is none
abbrev pub failed_by : ℕ → ModuleState → ModuleState
failed_by error m = if m.cmderr == 0 then record m { cmderr = error } else m

-- a command that is none of those that are built (3.6.1.1): another type, an increment, or a transfer of another size
-- or register
abbrev pub is_unsupported : ℕ → Bool
is_unsupported command =
    (not (command / 2 ^ 24 == 0) || bit 19 command)
    || (bit 17 command
    && (not (command / 2 ^ 20 % 8 == 3) || not (nat_le 0x1000 (command % 2 ^ 16) && nat_le (command % 2 ^ 16) 0x101f)))

-- the job of a command
abbrev pub job_of : ℕ → DebugJob
job_of command =
    if bit 17 command then MoveJob (command % 2 ^ 16 - 0x1000) (bit 16 command) (bit 18 command)
    else (if bit 18 command then BufferJob else NoJob)

-- a write of command (3.12.7)
abbrev pub commanded : ModuleState → Bool → ℕ → ModuleState
commanded m halted command =
    if is_busy m.job then failed_by 1 m
    else (if not (m.cmderr == 0) then m
    else (if is_unsupported command then record m { cmderr = 2 }
    else (if not halted then record m { cmderr = 4 } else record m { job = job_of command })))

-- a write of dmcontrol (3.12.2): dmactive 0 resets the module; a resume is asked of a halted hart, unless a halt is
abbrev pub controlled : ModuleState → Bool → ℕ → ModuleState
controlled m halted word =
    if not (bit 0 word) then reset_module
    else (if (bit 30 word && not (bit 31 word)) && halted
    then record m { haltreq = bit 31 word; resume = true; acked = false }
    else record m { haltreq = bit 31 word })

-- a write of a register of an active module; busy, some are dropped and an error is kept
abbrev pub wrote : ModuleState → Bool → ℕ → ℕ → ModuleState
wrote m halted address word =
    if address == 0x10 then controlled m halted word
    else (if address == 0x17 then commanded m halted word
    else (if address == 0x16
    then (if is_busy m.job then failed_by 1 m else record m { cmderr = bit_and m.cmderr (7 - word / 2 ^ 8 % 8) })
    else (if is_storage address then (if is_busy m.job then failed_by 1 m else with_storage m address word) else m)))

-- a write; while the module is not active, it can only be made active
abbrev pub after_write : ModuleState → Bool → ℕ → ℕ → ModuleState
after_write m halted address word =
    if m.active then wrote m halted address word
    else (if address == 0x10 && bit 0 word then record m { active = true } else m)

-- a read; busy, one of a data register or of the program buffer keeps an error
abbrev pub after_read : ModuleState → ℕ → ModuleState
after_read m address = if m.active && (is_busy m.job && is_storage address) then failed_by 1 m else m

-- what an access leaves, and its reply: a read's is the register before it, the others' is 0
unfoldable pub module_access : ModuleState → Bool → DmiOp → ℕ → ℕ → ModuleState × ℕ
module_access m halted Nop address word = (m, 0)
module_access m halted Read address word = (after_read m address, register_of m halted address)
module_access m halted Write address word = (after_write m halted address word, 0)

-- ---- the hart
-- the hart as the module sees it: one that is not halted has a view; one that is halted has its registers, and a rest
pub data HartSide (V R : Type 0) : Type 0 where
  Free : (view : V) → HartSide V R
  Stopped : (registers : List ℕ) (rest : R) → HartSide V R

abbrev pub is_halted : {V R : Type 0} → HartSide V R → Bool
is_halted (Free view) = false
is_halted (Stopped registers rest) = true

-- there are 32 registers of 64 bits, of which x0 is 0
pub record AreSideRegisters (registers : List ℕ) : Type 0 where
  pub count : length registers ≡ 32
  pub x0_is_zero : slice_index registers 0 ≡ 0
  pub fit : (n : ℕ) → slice_index registers n < 2 ^ 64

abbrev pub IsSide : {V R : Type 0} → HartSide V R → Type 0
IsSide (Free view) = ⊤
IsSide (Stopped registers rest) = AreSideRegisters registers

-- the registers with another number in one; x0 stays 0
abbrev pub with_register : List ℕ → ℕ → ℕ → List ℕ
with_register registers n value = if n == 0 then registers else slice_set registers n value

-- the address of a load or a store: a register and a signed offset of 12 bits, modulo 2 ^ 64 (Unprivileged ISA, RV64I,
-- Load and Store Instructions)
abbrev pub at_offset : ℕ → ℕ → ℕ
at_offset base offset = (base + (if nat_lt offset 2048 then offset else offset + (2 ^ 64 - 4096))) % 2 ^ 64

-- what the first word of the program buffer is to do, where it is LD or SD
pub data BufferStep : Type 0 where
  BufferLoad : (rd at : ℕ) → BufferStep
  BufferStore : (at value : ℕ) → BufferStep
  OtherStep : BufferStep

-- LD and SD by their fields (Unprivileged ISA, RV64I, I-type and S-type)
abbrev pub first_step : ℕ → List ℕ → BufferStep
first_step word registers =
    if word % 128 == 0x03 && word / 2 ^ 12 % 8 == 3
    then BufferLoad (word / 2 ^ 7 % 32) (at_offset (slice_index registers (word / 2 ^ 15 % 32)) (word / 2 ^ 20))
    else (if word % 128 == 0x23 && word / 2 ^ 12 % 8 == 3
    then BufferStore (at_offset (slice_index registers (word / 2 ^ 15 % 32)) (word / 2 ^ 25 * 32 + word / 2 ^ 7 % 32))
    (slice_index registers (word / 2 ^ 20 % 32))
    else OtherStep)

-- the second word of the buffer is EBREAK
abbrev pub is_single : List ℕ → Bool
is_single buffer = slice_index buffer 1 == 0x100073

-- what the buffer does, as far as it is known: the first word's step, where that is an access of a mapped doubleword
-- and EBREAK is next
abbrev pub known_step : BufferStep → Bool → BufferStep
known_step (BufferLoad rd at) single = if single && is_beat at then BufferLoad rd at else OtherStep
known_step (BufferStore at value) single = if single && is_beat at then BufferStore at value else OtherStep
known_step OtherStep single = OtherStep

module _ {V R : Type 0} (ran : V → ℕ → V → Type 0) (touched : V → Access → V → Type 0) (resumed : List ℕ → R → V) where
  -- an access of a halted hart leaves its registers, and what is left of the rest hangs on none of them: resuming with
  -- any registers shows the access
  abbrev pub TouchedHalted : R → Access → R → Type 0
  TouchedHalted rest access rest' =
      (registers : List ℕ) → touched (resumed registers rest) access (resumed registers rest')

  -- the buffer was run: as one access where it is known, else with any end
  abbrev pub BufferDone : BufferStep → ModuleState → List ℕ → R → ModuleState → HartSide V R → Type 0
  BufferDone (BufferLoad rd at) m registers rest m' side' =
      (value : ℕ) × (value < 2 ^ 64) × (rest' : R) × TouchedHalted rest (Loaded at value) rest'
      × (m' ≡ m) × (side' ≡ Stopped (with_register registers rd value) rest')
  BufferDone (BufferStore at value) m registers rest m' side' =
      (rest' : R) × TouchedHalted rest (Stored at value) rest' × (m' ≡ m) × (side' ≡ Stopped registers rest')
  BufferDone OtherStep m registers rest m' side' =
      (error : ℕ) × (registers' : List ℕ) × (rest' : R) × (m' ≡ record m { cmderr = error })
      × (side' ≡ Stopped registers' rest')

  -- the buffer was run, or not
  abbrev pub BufferRun : Bool → ModuleState → List ℕ → R → ModuleState → HartSide V R → Type 0
  BufferRun true m registers rest m' side' =
      BufferDone (known_step (first_step (slice_index m.buffer 0) registers) (is_single m.buffer))
      m registers rest m' side'
  BufferRun false m registers rest m' side' = (m' ≡ m) × (side' ≡ Stopped registers rest)

  -- a whole job was done in one step: the transfer first, and then the buffer
  abbrev pub JobDone : DebugJob → ModuleState → List ℕ → R → ModuleState → HartSide V R → Type 0
  JobDone NoJob m registers rest m' side' = (m' ≡ m) × (side' ≡ Stopped registers rest)
  JobDone (MoveJob n true then_run) m registers rest m' side' =
      BufferRun then_run (record m { job = NoJob }) (with_register registers n m.value) rest m' side'
  JobDone (MoveJob n false then_run) m registers rest m' side' =
      BufferRun then_run (record m { job = NoJob; value = slice_index registers n }) registers rest m' side'
  JobDone BufferJob m registers rest m' side' = BufferRun true (record m { job = NoJob }) registers rest m' side'

  -- one step of a halted hart: it resumes where that is asked, or does its job
  abbrev pub HaltedStep : Bool → ModuleState → List ℕ → R → ModuleState → HartSide V R → Type 0
  HaltedStep true m registers rest m' side' =
      (m' ≡ record m { resume = false; acked = true }) × (side' ≡ Free (resumed registers rest))
  HaltedStep false m registers rest m' side' = JobDone m.job m registers rest m' side'

  -- one step of a hart that is not halted: it halts where that is asked, so that resuming gives its view, or makes a
  -- step
  abbrev pub FreeStep : Bool → ModuleState → V → ModuleState → HartSide V R → Type 0
  FreeStep true m v m' side' = (registers : List ℕ) × (rest : R) × (m' ≡ m) × (side' ≡ Stopped registers rest)
      × (resumed registers rest ≡ v)
  FreeStep false m v m' side' = (w : V) × (m' ≡ m) × (side' ≡ Free w) × ran v 1 w

  -- one hart step under the module's lines
  abbrev pub SideStep : ModuleState → HartSide V R → ModuleState → HartSide V R → Type 0
  SideStep m (Free v) m' side' = FreeStep m.haltreq m v m' side'
  SideStep m (Stopped registers rest) m' side' = HaltedStep m.resume m registers rest m' side'

  -- so many hart steps
  abbrev pub SideSteps : ℕ → ModuleState → HartSide V R → ModuleState → HartSide V R → Type 0
  SideSteps zero m side m' side' = (m' ≡ m) × (side' ≡ side)
  SideSteps (suc count) m side m' side' =
      (n : ModuleState) × (between : HartSide V R) × SideStep m side n between × SideSteps count n between m' side'

  -- a turn of a module access: some hart steps, at least one where every pause is positive, and then the access, which
  -- leaves the hart as it was behind the steps
  pub record DmiTurned {S : Type 0} (valid positive : S → Type 0) (module_of : S → ModuleState)
      (side : S → HartSide V R)
      (before : S) (ask : DmiAsk) (reply : ℕ) (after : S) : Type 0 where
    pub steps : ℕ
    pub between : ModuleState
    pub paused : HartSide V R
    pub pause : SideSteps steps (module_of before) (side before) between paused
    pub access : module_access between (is_halted paused) ask.op ask.address ask.value ≡ (module_of after, reply)
    pub side_left : side after ≡ paused
    pub reply_fits : reply < 2 ^ 32
    pub still_valid : valid after
    pub some_step : positive before → 0 < steps
    pub still_positive : positive before → positive after

  -- what a wire's `next` and `lost` owe: each is a turn of what was asked
  abbrev pub DmiLaw : {S : Type 0} → (S → Type 0) → (S → Type 0) → (S → ModuleState) → (S → HartSide V R)
      → (S → DmiAsk → S × ℕ) → Type 0
  DmiLaw {S} valid positive module_of side act =
      (s : S) (ask : DmiAsk) → valid s → ask.value < 2 ^ 32
      → DmiTurned valid positive module_of side s ask (act s ask).1 (act s ask).0

-- ---- command errors
-- a read of abstractcs, whose answer has this command error
abbrev pub reads_error : DmiOp → ℕ → ℕ → ℕ → Bool
reads_error Nop address reply error = false
reads_error Read address reply error = address == 0x16 && (reply / 2 ^ 8 % 8 == error && not (error == 0))
reads_error Write address reply error = false

-- the count of this error rises where such a read was answered, and nowhere else
abbrev pub RaisesIf : Bool → ℕ → ℕ → Type 0
RaisesIf true before now = (before ≤ now) × Rose before now
RaisesIf false before now = now ≡ before

abbrev pub Raises : {E : Type 0} → DmiOp → ℕ → (ℕ → ℕ) → (ℕ → ℕ) → Result ℕ E → Type 0
Raises op address before now (Ok reply) = (error : ℕ)
    → RaisesIf (reads_error op address reply error) (before error) (now error)
Raises op address before now (Err stop) = (error : ℕ) → now error ≡ before error
