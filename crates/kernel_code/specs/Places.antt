-- The places of the kernel's code and of its data, under names. Written by tools/kernel_blocks.py.
use Rattle.std.specs.Prelude.{ℕ, ◌+◌, ◌-◌}
use Rattle.fe_base.specs.MemoryMap.{kernel_start, tohost, fromhost, request, boot, kernel_variables}
use Rattle.kernel_code.specs.declared.places.TheConstants.{BOOT_WAIT, BOOT_TEST, BOOT_TAKE, LEAVE, LEAVE_RETURN, SAVE, CHECK, SCAN, PATH_LOAD, PATH_LOADED, PATH_TEST, PATH_PASSED, LOCAL, FILL, WAIT, WAIT_TEST, TAKE, RESTORE, RETURN, SPEAK, PUT, PUT_TEST, PUT_STORE, PUT_DONE, CLOSE, CLOSING, CLOSING_TEST, CLOSING_STORE, IDLE}

-- the load of FROMHOST while the first request waits
abbrev pub pc_boot_wait : ℕ
pc_boot_wait = BOOT_WAIT

-- the test of it
abbrev pub pc_boot_test : ℕ
pc_boot_test = BOOT_TEST

-- the answer to the first request is taken
abbrev pub pc_boot_take : ℕ
pc_boot_take = BOOT_TAKE

-- the program is entered for the first time
abbrev pub pc_leave : ℕ
pc_leave = LEAVE

-- the MRET that enters it
abbrev pub pc_leave_return : ℕ
pc_leave_return = LEAVE_RETURN

-- the handler: the program's registers are saved
abbrev pub pc_save : ℕ
pc_save = SAVE

-- the cause and the number of a call are looked at
abbrev pub pc_check : ℕ
pc_check = CHECK

-- a path is scanned
abbrev pub pc_scan : ℕ
pc_scan = SCAN

-- the load of a path's byte
abbrev pub pc_path_load : ℕ
pc_path_load = PATH_LOAD

-- behind it
abbrev pub pc_path_loaded : ℕ
pc_path_loaded = PATH_LOADED

-- the test of it
abbrev pub pc_path_test : ℕ
pc_path_test = PATH_TEST

-- a byte that is not NUL was passed
abbrev pub pc_path_passed : ℕ
pc_path_passed = PATH_PASSED

-- the kernel answers itself
abbrev pub pc_local : ℕ
pc_local = LOCAL

-- a request is filled
abbrev pub pc_fill : ℕ
pc_fill = FILL

-- the load of FROMHOST while a request waits
abbrev pub pc_wait : ℕ
pc_wait = WAIT

-- the test of it
abbrev pub pc_wait_test : ℕ
pc_wait_test = WAIT_TEST

-- the answer is taken
abbrev pub pc_take : ℕ
pc_take = TAKE

-- the program's registers are restored
abbrev pub pc_restore : ℕ
pc_restore = RESTORE

-- the MRET that returns to the program
abbrev pub pc_return : ℕ
pc_return = RETURN

-- the last words of a program are chosen
abbrev pub pc_speak : ℕ
pc_speak = SPEAK

-- the load of TOHOST before a byte is put
abbrev pub pc_put : ℕ
pc_put = PUT

-- the test of it
abbrev pub pc_put_test : ℕ
pc_put_test = PUT_TEST

-- the store of a byte to TOHOST
abbrev pub pc_put_store : ℕ
pc_put_store = PUT_STORE

-- behind it
abbrev pub pc_put_done : ℕ
pc_put_done = PUT_DONE

-- the exit word is made
abbrev pub pc_close : ℕ
pc_close = CLOSE

-- the load of TOHOST before the exit word is put
abbrev pub pc_closing : ℕ
pc_closing = CLOSING

-- the test of it
abbrev pub pc_closing_test : ℕ
pc_closing_test = CLOSING_TEST

-- the store of the exit word to TOHOST
abbrev pub pc_closing_store : ℕ
pc_closing_store = CLOSING_STORE

-- the last place, which jumps to itself
abbrev pub pc_idle : ℕ
pc_idle = IDLE

-- ---- doublewords of the kernel area: their places in it, and their numbers behind the code

-- the place of tohost in the kernel area
abbrev pub tohost_place : ℕ
tohost_place = tohost - kernel_start

-- the place of fromhost in the kernel area
abbrev pub fromhost_place : ℕ
fromhost_place = fromhost - kernel_start

-- the place of request in the kernel area
abbrev pub request_place : ℕ
request_place = request - kernel_start

-- the place of entry in the kernel area
abbrev pub entry_place : ℕ
entry_place = boot - kernel_start

-- the place of first_break in the kernel area
abbrev pub first_break_place : ℕ
first_break_place = boot + 8 - kernel_start

-- the place of break in the kernel area
abbrev pub break_place : ℕ
break_place = kernel_variables - kernel_start

-- register 0 in FRAME, which is not used; the others follow
abbrev pub frame_cell : ℕ
frame_cell = 32

-- TOHOST
abbrev pub tohost_cell : ℕ
tohost_cell = 0

-- FROMHOST
abbrev pub fromhost_cell : ℕ
fromhost_cell = 8

-- the first doubleword of REQUEST
abbrev pub request_cell : ℕ
request_cell = 16

-- a0 in FRAME
abbrev pub a0_cell : ℕ
a0_cell = 42

-- the entry, in the boot block
abbrev pub entry_cell : ℕ
entry_cell = 64

-- the first break, in the boot block
abbrev pub first_break_cell : ℕ
first_break_cell = 65

-- the break, the first of the kernel's variables
abbrev pub break_cell : ℕ
break_cell = 66
