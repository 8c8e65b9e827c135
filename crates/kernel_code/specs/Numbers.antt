-- Numbers of the kernel's blocks and of the variables in their terms, under names. A gate is a block of one place,
-- where what is known changes its terms. Written by tools/kernel_blocks.py.
use Rattle.std.specs.Prelude.{ℕ}

-- ---- blocks

-- Boot
abbrev pub booting_blocks : ℕ
booting_blocks = 0

-- BootWait, the load
abbrev pub boot_waiting_blocks : ℕ
boot_waiting_blocks = 1

-- BootTake
abbrev pub boot_taking_blocks : ℕ
boot_taking_blocks = 2

-- Leave
abbrev pub leaving_blocks : ℕ
leaving_blocks = 3

-- Save
abbrev pub saving_blocks : ℕ
saving_blocks = 5

-- Check
abbrev pub checking_blocks : ℕ
checking_blocks = 6

-- Scan, before the load of a byte
abbrev pub scanning_blocks : ℕ
scanning_blocks = 7

-- Fill, the stores of the request
abbrev pub filling_blocks : ℕ
filling_blocks = 8

-- Wait, the load
abbrev pub waiting_blocks : ℕ
waiting_blocks = 9

-- Take
abbrev pub taking_blocks : ℕ
taking_blocks = 10

-- Local, no such call
abbrev pub no_call_blocks : ℕ
no_call_blocks = 11

-- Restore
abbrev pub restoring_blocks : ℕ
restoring_blocks = 12

-- Speak, the choice of the words
abbrev pub choosing_blocks : ℕ
choosing_blocks = 13

-- into the scan of the first byte
abbrev pub first_byte_gate : ℕ
first_byte_gate = 20

-- into the scan of the next byte
abbrev pub next_byte_gate : ℕ
next_byte_gate = 21

-- into Scan
abbrev pub path_gate : ℕ
path_gate = 22

-- a NUL was found
abbrev pub path_end_gate : ℕ
path_end_gate = 23

-- no NUL within the limit
abbrev pub path_long_gate : ℕ
path_long_gate = 24

-- a byte of the path is outside the user area
abbrev pub path_outside_gate : ℕ
path_outside_gate = 25

-- a buffer is outside the user area
abbrev pub buffer_gate : ℕ
buffer_gate = 26

-- no such call
abbrev pub no_call_gate : ℕ
no_call_gate = 27

-- brk
abbrev pub break_gate : ℕ
break_gate = 28

-- a request without a path is ready
abbrev pub request_gate : ℕ
request_gate = 29

-- a request with a path is ready
abbrev pub path_request_gate : ℕ
path_request_gate = 30

-- the answer is there
abbrev pub answer_gate : ℕ
answer_gate = 32

-- from Take to Restore
abbrev pub taken_gate : ℕ
taken_gate = 33

-- from Local to Restore: no such call
abbrev pub no_call_done_gate : ℕ
no_call_done_gate = 34

-- into the trap's words
abbrev pub trap_words_gate : ℕ
trap_words_gate = 35

-- into the counter's words
abbrev pub counter_words_gate : ℕ
counter_words_gate = 36

-- Local, a byte outside the user area
abbrev pub outside_blocks : ℕ
outside_blocks = 40

-- Local, a path that is too long
abbrev pub long_blocks : ℕ
long_blocks = 41

-- Local, brk
abbrev pub break_blocks : ℕ
break_blocks = 42

-- from Local to Restore: a byte outside the user area
abbrev pub outside_done_gate : ℕ
outside_done_gate = 43

-- from Local to Restore: a path that is too long
abbrev pub long_done_gate : ℕ
long_done_gate = 44

-- from Local to Restore: brk
abbrev pub break_done_gate : ℕ
break_done_gate = 45

-- Scan, a byte was loaded
abbrev pub looked_blocks : ℕ
looked_blocks = 46

-- Scan, a byte was passed
abbrev pub passed_blocks : ℕ
passed_blocks = 47

-- Fill, the arguments behind a path
abbrev pub found_blocks : ℕ
found_blocks = 48

-- Closing after the trap's words
abbrev pub trap_end_blocks : ℕ
trap_end_blocks = 50

-- Closing after the counter's words
abbrev pub counter_end_blocks : ℕ
counter_end_blocks = 51

-- the last place after the trap's words
abbrev pub trap_idle_blocks : ℕ
trap_idle_blocks = 52

-- the last place after the counter's words
abbrev pub counter_idle_blocks : ℕ
counter_idle_blocks = 53

-- Scan, before the first byte
abbrev pub starting_blocks : ℕ
starting_blocks = 54

-- Scan, so many bytes as a path may have
abbrev pub full_blocks : ℕ
full_blocks = 56

-- Wait, the test
abbrev pub tested_blocks : ℕ
tested_blocks = 57

-- BootWait, the test
abbrev pub boot_tested_blocks : ℕ
boot_tested_blocks = 58

-- the trap's words: byte t is put in 1000 + 2 t, and 1001 + 2 t stands behind its store
abbrev pub trap_words : ℕ
trap_words = 1000

-- the counter's words, likewise
abbrev pub counter_words : ℕ
counter_words = 2000

-- the last byte of the trap's words
abbrev pub trap_last_blocks : ℕ
trap_last_blocks = 1110

-- the last byte of the counter's words
abbrev pub counter_last_blocks : ℕ
counter_last_blocks = 2074

-- the store of a byte: the number of its blocks, and this
abbrev pub store_gates : ℕ
store_gates = 4000

-- the first of those of the counter's words
abbrev pub counter_store_gates : ℕ
counter_store_gates = 6000

-- ---- variables; those below 32 are the registers of the program at the trap

-- the pc at the trap
abbrev pub v_pc : ℕ
v_pc = 32

-- the break
abbrev pub v_break : ℕ
v_break = 33

-- the first break
abbrev pub v_first_break : ℕ
v_first_break = 34

-- how many bytes of the path were passed
abbrev pub v_scanned : ℕ
v_scanned = 35

-- the entry
abbrev pub v_entry : ℕ
v_entry = 36

-- the byte of the path that was loaded last
abbrev pub v_byte : ℕ
v_byte = 37

-- the length of the path, NUL included
abbrev pub v_length : ℕ
v_length = 39

-- the cause of the trap
abbrev pub v_cause : ℕ
v_cause = 40

-- the result that the host left in the request's first doubleword
abbrev pub v_result : ℕ
v_result = 41

-- the trap's value
abbrev pub v_value : ℕ
v_value = 42

-- what was loaded from FROMHOST last
abbrev pub v_fromhost : ℕ
v_fromhost = 43

-- the number in the request
abbrev pub v_word0 : ℕ
v_word0 = 50

-- the first argument in the request
abbrev pub v_word1 : ℕ
v_word1 = 51

-- the second
abbrev pub v_word2 : ℕ
v_word2 = 52

-- the third
abbrev pub v_word3 : ℕ
v_word3 = 53

-- the fourth
abbrev pub v_word4 : ℕ
v_word4 = 54

-- the fifth
abbrev pub v_word5 : ℕ
v_word5 = 55

-- a doubleword before a step
abbrev pub v_before : ℕ
v_before = 60

-- a register before a step
abbrev pub v_seen : ℕ
v_seen = 61
