-- The kernel's instructions, and the words of its image. Written by tools/kernel_words.py.
use Rattle.std.specs.Prelude.{ℕ, pos, negsuc, List, [], ◌∷◌}
use Rattle.rv_decode.specs.declared.instruction.Insn.{Insn}
use Rattle.rv_decode.specs.declared.instruction.Insn.TheVariants.{Add, Addi, Andi, Auipc, Beq, Bgeu, Bltu, Bne, Csrrs, Csrrw, Jal, Jalr, Lbu, Ld, Lui, Mret, Sd, Slli, Sltiu, Srl, Srli, Sub}

-- the kernel's instructions, from its first address on
unfoldable pub kernel_insns : List Insn
kernel_insns =
    Auipc 31 8 ∷
    Addi 31 31 (pos 256) ∷
    Csrrw 0 31 832 ∷
    Auipc 1 0 ∷
    Addi 1 1 (pos 112) ∷
    Csrrw 0 1 773 ∷
    Lui 1 4 ∷
    Csrrw 0 1 944 ∷
    Lui 1 1028 ∷
    Csrrw 0 1 945 ∷
    Addi 1 0 (pos 240) ∷
    Slli 1 1 4 ∷
    Csrrw 0 1 928 ∷
    Ld 1 31 (pos 264) ∷
    Sd 31 1 (pos 272) ∷
    Addi 1 0 (pos 2011) ∷
    Sd 31 1 (negsuc 127) ∷
    Lui 2 4096 ∷
    Sd 31 2 (negsuc 119) ∷
    Lui 1 16 ∷
    Sd 31 1 (negsuc 111) ∷
    Addi 1 31 (negsuc 127) ∷
    Sd 31 1 (negsuc 255) ∷
    Ld 1 31 (negsuc 191) ∷
    Beq 1 0 (negsuc 3) ∷
    Sd 31 0 (negsuc 191) ∷
    Ld 1 31 (pos 256) ∷
    Csrrw 0 1 833 ∷
    Addi 1 0 (pos 0) ∷
    Addi 31 0 (pos 0) ∷
    Mret ∷
    Csrrw 31 31 832 ∷
    Sd 31 1 (pos 8) ∷
    Sd 31 2 (pos 16) ∷
    Sd 31 3 (pos 24) ∷
    Sd 31 4 (pos 32) ∷
    Sd 31 5 (pos 40) ∷
    Sd 31 6 (pos 48) ∷
    Sd 31 7 (pos 56) ∷
    Sd 31 8 (pos 64) ∷
    Sd 31 9 (pos 72) ∷
    Sd 31 10 (pos 80) ∷
    Sd 31 11 (pos 88) ∷
    Sd 31 12 (pos 96) ∷
    Sd 31 13 (pos 104) ∷
    Sd 31 14 (pos 112) ∷
    Sd 31 15 (pos 120) ∷
    Sd 31 16 (pos 128) ∷
    Sd 31 17 (pos 136) ∷
    Sd 31 18 (pos 144) ∷
    Sd 31 19 (pos 152) ∷
    Sd 31 20 (pos 160) ∷
    Sd 31 21 (pos 168) ∷
    Sd 31 22 (pos 176) ∷
    Sd 31 23 (pos 184) ∷
    Sd 31 24 (pos 192) ∷
    Sd 31 25 (pos 200) ∷
    Sd 31 26 (pos 208) ∷
    Sd 31 27 (pos 216) ∷
    Sd 31 28 (pos 224) ∷
    Sd 31 29 (pos 232) ∷
    Sd 31 30 (pos 240) ∷
    Csrrs 5 0 832 ∷
    Sd 31 5 (pos 248) ∷
    Csrrw 0 31 832 ∷
    Csrrs 5 0 834 ∷
    Addi 6 0 (pos 8) ∷
    Bne 5 6 (pos 532) ∷
    Addi 5 0 (pos 64) ∷
    Beq 17 5 (pos 156) ∷
    Addi 5 0 (pos 63) ∷
    Beq 17 5 (pos 148) ∷
    Addi 5 0 (pos 67) ∷
    Beq 17 5 (pos 144) ∷
    Addi 5 0 (pos 68) ∷
    Beq 17 5 (pos 136) ∷
    Addi 5 0 (pos 80) ∷
    Beq 17 5 (pos 108) ∷
    Addi 5 0 (pos 57) ∷
    Beq 17 5 (pos 80) ∷
    Addi 5 0 (pos 62) ∷
    Beq 17 5 (pos 80) ∷
    Addi 5 0 (pos 46) ∷
    Beq 17 5 (pos 68) ∷
    Addi 5 0 (pos 56) ∷
    Beq 17 5 (pos 144) ∷
    Addi 5 0 (pos 34) ∷
    Beq 17 5 (pos 136) ∷
    Addi 5 0 (pos 35) ∷
    Beq 17 5 (pos 128) ∷
    Addi 5 0 (pos 48) ∷
    Beq 17 5 (pos 120) ∷
    Addi 5 0 (pos 214) ∷
    Beq 17 5 (pos 184) ∷
    Addi 5 0 (pos 93) ∷
    Beq 17 5 (pos 16) ∷
    Addi 5 0 (pos 94) ∷
    Beq 17 5 (pos 8) ∷
    Jal 0 (pos 140) ∷
    Addi 11 0 (pos 0) ∷
    Addi 12 0 (pos 0) ∷
    Addi 13 0 (pos 0) ∷
    Addi 14 0 (pos 0) ∷
    Jal 0 (pos 196) ∷
    Addi 12 0 (pos 0) ∷
    Addi 13 0 (pos 0) ∷
    Addi 28 0 (pos 128) ∷
    Jal 0 (pos 24) ∷
    Addi 13 0 (pos 0) ∷
    Lui 28 256 ∷
    Bltu 28 12 (pos 8) ∷
    Addi 28 12 (pos 0) ∷
    Addi 12 28 (pos 0) ∷
    Lui 5 16 ∷
    Bltu 11 5 (pos 84) ∷
    Lui 5 4112 ∷
    Bltu 5 11 (pos 76) ∷
    Sub 5 5 11 ∷
    Bltu 5 28 (pos 68) ∷
    Addi 14 0 (pos 0) ∷
    Jal 0 (pos 128) ∷
    Addi 28 0 (pos 0) ∷
    Lui 6 16 ∷
    Lui 7 4112 ∷
    Lui 29 1 ∷
    Add 5 11 28 ∷
    Bltu 5 6 (pos 36) ∷
    Bgeu 5 7 (pos 32) ∷
    Lbu 5 5 (pos 0) ∷
    Addi 28 28 (pos 1) ∷
    Beq 5 0 (pos 64) ∷
    Bne 28 29 (negsuc 23) ∷
    Jal 0 (pos 20) ∷
    Addi 10 0 (negsuc 37) ∷
    Jal 0 (pos 128) ∷
    Addi 10 0 (negsuc 13) ∷
    Jal 0 (pos 120) ∷
    Addi 10 0 (negsuc 35) ∷
    Jal 0 (pos 112) ∷
    Ld 5 31 (pos 264) ∷
    Bltu 10 5 (pos 16) ∷
    Lui 5 3840 ∷
    Bltu 5 10 (pos 8) ∷
    Sd 31 10 (pos 272) ∷
    Ld 10 31 (pos 272) ∷
    Jal 0 (pos 84) ∷
    Addi 14 13 (pos 0) ∷
    Addi 5 0 (pos 56) ∷
    Beq 17 5 (pos 8) ∷
    Addi 14 0 (pos 0) ∷
    Addi 13 12 (pos 0) ∷
    Addi 12 28 (pos 0) ∷
    Sd 31 17 (negsuc 127) ∷
    Sd 31 10 (negsuc 119) ∷
    Sd 31 11 (negsuc 111) ∷
    Sd 31 12 (negsuc 103) ∷
    Sd 31 13 (negsuc 95) ∷
    Sd 31 14 (negsuc 87) ∷
    Sd 31 0 (negsuc 79) ∷
    Sd 31 0 (negsuc 71) ∷
    Addi 5 31 (negsuc 127) ∷
    Sd 31 5 (negsuc 255) ∷
    Ld 5 31 (negsuc 191) ∷
    Beq 5 0 (negsuc 3) ∷
    Sd 31 0 (negsuc 191) ∷
    Ld 10 31 (negsuc 127) ∷
    Csrrs 1 0 833 ∷
    Addi 1 1 (pos 4) ∷
    Csrrw 0 1 833 ∷
    Ld 1 31 (pos 8) ∷
    Ld 2 31 (pos 16) ∷
    Ld 3 31 (pos 24) ∷
    Ld 4 31 (pos 32) ∷
    Ld 5 31 (pos 40) ∷
    Ld 6 31 (pos 48) ∷
    Ld 7 31 (pos 56) ∷
    Ld 8 31 (pos 64) ∷
    Ld 9 31 (pos 72) ∷
    Ld 11 31 (pos 88) ∷
    Ld 12 31 (pos 96) ∷
    Ld 13 31 (pos 104) ∷
    Ld 14 31 (pos 112) ∷
    Ld 15 31 (pos 120) ∷
    Ld 16 31 (pos 128) ∷
    Ld 17 31 (pos 136) ∷
    Ld 18 31 (pos 144) ∷
    Ld 19 31 (pos 152) ∷
    Ld 20 31 (pos 160) ∷
    Ld 21 31 (pos 168) ∷
    Ld 22 31 (pos 176) ∷
    Ld 23 31 (pos 184) ∷
    Ld 24 31 (pos 192) ∷
    Ld 25 31 (pos 200) ∷
    Ld 26 31 (pos 208) ∷
    Ld 27 31 (pos 216) ∷
    Ld 28 31 (pos 224) ∷
    Ld 29 31 (pos 232) ∷
    Ld 30 31 (pos 240) ∷
    Ld 31 31 (pos 248) ∷
    Mret ∷
    Csrrs 21 0 833 ∷
    Csrrs 22 0 835 ∷
    Addi 30 0 (pos 257) ∷
    Slli 30 30 48 ∷
    Addi 6 0 (pos 2) ∷
    Bne 5 6 (pos 220) ∷
    Andi 6 22 (pos 127) ∷
    Addi 7 0 (pos 115) ∷
    Bne 6 7 (pos 208) ∷
    Srli 6 22 12 ∷
    Andi 6 6 (pos 3) ∷
    Beq 6 0 (pos 196) ∷
    Srli 6 22 25 ∷
    Addi 7 0 (pos 96) ∷
    Bne 6 7 (pos 184) ∷
    Addi 23 0 (pos 124) ∷
    Addi 10 0 (pos 112) ∷
    Jal 1 (pos 432) ∷
    Addi 10 0 (pos 107) ∷
    Jal 1 (pos 424) ∷
    Addi 10 0 (pos 58) ∷
    Jal 1 (pos 416) ∷
    Addi 10 0 (pos 32) ∷
    Jal 1 (pos 408) ∷
    Addi 10 0 (pos 99) ∷
    Jal 1 (pos 400) ∷
    Addi 10 0 (pos 111) ∷
    Jal 1 (pos 392) ∷
    Addi 10 0 (pos 117) ∷
    Jal 1 (pos 384) ∷
    Addi 10 0 (pos 110) ∷
    Jal 1 (pos 376) ∷
    Addi 10 0 (pos 116) ∷
    Jal 1 (pos 368) ∷
    Addi 10 0 (pos 101) ∷
    Jal 1 (pos 360) ∷
    Addi 10 0 (pos 114) ∷
    Jal 1 (pos 352) ∷
    Addi 10 0 (pos 32) ∷
    Jal 1 (pos 344) ∷
    Addi 10 0 (pos 114) ∷
    Jal 1 (pos 336) ∷
    Addi 10 0 (pos 101) ∷
    Jal 1 (pos 328) ∷
    Addi 10 0 (pos 97) ∷
    Jal 1 (pos 320) ∷
    Addi 10 0 (pos 100) ∷
    Jal 1 (pos 312) ∷
    Addi 10 0 (pos 32) ∷
    Jal 1 (pos 304) ∷
    Addi 10 0 (pos 97) ∷
    Jal 1 (pos 296) ∷
    Addi 10 0 (pos 116) ∷
    Jal 1 (pos 288) ∷
    Addi 10 0 (pos 32) ∷
    Jal 1 (pos 280) ∷
    Addi 18 21 (pos 0) ∷
    Addi 19 0 (pos 64) ∷
    Jal 2 (pos 224) ∷
    Jal 0 (pos 208) ∷
    Addi 23 5 (pos 128) ∷
    Addi 20 5 (pos 0) ∷
    Addi 10 0 (pos 112) ∷
    Jal 1 (pos 248) ∷
    Addi 10 0 (pos 107) ∷
    Jal 1 (pos 240) ∷
    Addi 10 0 (pos 58) ∷
    Jal 1 (pos 232) ∷
    Addi 10 0 (pos 32) ∷
    Jal 1 (pos 224) ∷
    Addi 10 0 (pos 116) ∷
    Jal 1 (pos 216) ∷
    Addi 10 0 (pos 114) ∷
    Jal 1 (pos 208) ∷
    Addi 10 0 (pos 97) ∷
    Jal 1 (pos 200) ∷
    Addi 10 0 (pos 112) ∷
    Jal 1 (pos 192) ∷
    Addi 10 0 (pos 32) ∷
    Jal 1 (pos 184) ∷
    Addi 18 20 (pos 0) ∷
    Addi 19 0 (pos 8) ∷
    Jal 2 (pos 128) ∷
    Addi 10 0 (pos 32) ∷
    Jal 1 (pos 164) ∷
    Addi 10 0 (pos 97) ∷
    Jal 1 (pos 156) ∷
    Addi 10 0 (pos 116) ∷
    Jal 1 (pos 148) ∷
    Addi 10 0 (pos 32) ∷
    Jal 1 (pos 140) ∷
    Addi 18 21 (pos 0) ∷
    Addi 19 0 (pos 64) ∷
    Jal 2 (pos 84) ∷
    Addi 10 0 (pos 32) ∷
    Jal 1 (pos 120) ∷
    Addi 10 0 (pos 118) ∷
    Jal 1 (pos 112) ∷
    Addi 10 0 (pos 97) ∷
    Jal 1 (pos 104) ∷
    Addi 10 0 (pos 108) ∷
    Jal 1 (pos 96) ∷
    Addi 10 0 (pos 117) ∷
    Jal 1 (pos 88) ∷
    Addi 10 0 (pos 101) ∷
    Jal 1 (pos 80) ∷
    Addi 10 0 (pos 32) ∷
    Jal 1 (pos 72) ∷
    Addi 18 22 (pos 0) ∷
    Addi 19 0 (pos 64) ∷
    Jal 2 (pos 16) ∷
    Addi 10 0 (pos 10) ∷
    Jal 1 (pos 52) ∷
    Jal 0 (pos 68) ∷
    Addi 19 19 (negsuc 3) ∷
    Srl 10 18 19 ∷
    Andi 10 10 (pos 15) ∷
    Sltiu 6 10 (pos 10) ∷
    Addi 6 6 (negsuc 0) ∷
    Andi 6 6 (pos 39) ∷
    Add 10 10 6 ∷
    Addi 10 10 (pos 48) ∷
    Jal 1 (pos 12) ∷
    Bne 19 0 (negsuc 35) ∷
    Jalr 0 2 (pos 0) ∷
    Add 10 10 30 ∷
    Ld 6 31 (negsuc 255) ∷
    Bne 6 0 (negsuc 3) ∷
    Sd 31 10 (negsuc 255) ∷
    Jalr 0 1 (pos 0) ∷
    Slli 10 23 1 ∷
    Addi 10 10 (pos 1) ∷
    Ld 6 31 (negsuc 255) ∷
    Bne 6 0 (negsuc 3) ∷
    Sd 31 10 (negsuc 255) ∷
    Jal 0 (pos 0) ∷
    []

-- their words, in the same order
unfoldable pub kernel_words : List ℕ
kernel_words =
    0x8f97 ∷ 0x100f8f93 ∷ 0x340f9073 ∷ 0x97 ∷ 0x7008093 ∷ 0x30509073 ∷ 0x40b7 ∷ 0x3b009073 ∷
    0x4040b7 ∷ 0x3b109073 ∷ 0xf000093 ∷ 0x409093 ∷ 0x3a009073 ∷ 0x108fb083 ∷ 0x101fb823 ∷ 0x7db00093 ∷
    0xf81fb023 ∷ 0x1000137 ∷ 0xf82fb423 ∷ 0x100b7 ∷ 0xf81fb823 ∷ 0xf80f8093 ∷ 0xf01fb023 ∷ 0xf40fb083 ∷
    0xfe008ee3 ∷ 0xf40fb023 ∷ 0x100fb083 ∷ 0x34109073 ∷ 0x93 ∷ 0xf93 ∷ 0x30200073 ∷ 0x340f9ff3 ∷
    0x1fb423 ∷ 0x2fb823 ∷ 0x3fbc23 ∷ 0x24fb023 ∷ 0x25fb423 ∷ 0x26fb823 ∷ 0x27fbc23 ∷ 0x48fb023 ∷
    0x49fb423 ∷ 0x4afb823 ∷ 0x4bfbc23 ∷ 0x6cfb023 ∷ 0x6dfb423 ∷ 0x6efb823 ∷ 0x6ffbc23 ∷ 0x90fb023 ∷
    0x91fb423 ∷ 0x92fb823 ∷ 0x93fbc23 ∷ 0xb4fb023 ∷ 0xb5fb423 ∷ 0xb6fb823 ∷ 0xb7fbc23 ∷ 0xd8fb023 ∷
    0xd9fb423 ∷ 0xdafb823 ∷ 0xdbfbc23 ∷ 0xfcfb023 ∷ 0xfdfb423 ∷ 0xfefb823 ∷ 0x340022f3 ∷ 0xe5fbc23 ∷
    0x340f9073 ∷ 0x342022f3 ∷ 0x800313 ∷ 0x20629a63 ∷ 0x4000293 ∷ 0x8588e63 ∷ 0x3f00293 ∷ 0x8588a63 ∷
    0x4300293 ∷ 0x8588863 ∷ 0x4400293 ∷ 0x8588463 ∷ 0x5000293 ∷ 0x6588663 ∷ 0x3900293 ∷ 0x4588863 ∷
    0x3e00293 ∷ 0x4588863 ∷ 0x2e00293 ∷ 0x4588263 ∷ 0x3800293 ∷ 0x8588863 ∷ 0x2200293 ∷ 0x8588463 ∷
    0x2300293 ∷ 0x8588063 ∷ 0x3000293 ∷ 0x6588c63 ∷ 0xd600293 ∷ 0xa588c63 ∷ 0x5d00293 ∷ 0x588863 ∷
    0x5e00293 ∷ 0x588463 ∷ 0x8c0006f ∷ 0x593 ∷ 0x613 ∷ 0x693 ∷ 0x713 ∷ 0xc40006f ∷
    0x613 ∷ 0x693 ∷ 0x8000e13 ∷ 0x180006f ∷ 0x693 ∷ 0x100e37 ∷ 0xce6463 ∷ 0x60e13 ∷
    0xe0613 ∷ 0x102b7 ∷ 0x455ea63 ∷ 0x10102b7 ∷ 0x4b2e663 ∷ 0x40b282b3 ∷ 0x5c2e263 ∷ 0x713 ∷
    0x800006f ∷ 0xe13 ∷ 0x10337 ∷ 0x10103b7 ∷ 0x1eb7 ∷ 0x1c582b3 ∷ 0x262e263 ∷ 0x272f063 ∷
    0x2c283 ∷ 0x1e0e13 ∷ 0x4028063 ∷ 0xffde14e3 ∷ 0x140006f ∷ 0xfda00513 ∷ 0x800006f ∷ 0xff200513 ∷
    0x780006f ∷ 0xfdc00513 ∷ 0x700006f ∷ 0x108fb283 ∷ 0x556863 ∷ 0xf002b7 ∷ 0xa2e463 ∷ 0x10afb823 ∷
    0x110fb503 ∷ 0x540006f ∷ 0x68713 ∷ 0x3800293 ∷ 0x588463 ∷ 0x713 ∷ 0x60693 ∷ 0xe0613 ∷
    0xf91fb023 ∷ 0xf8afb423 ∷ 0xf8bfb823 ∷ 0xf8cfbc23 ∷ 0xfadfb023 ∷ 0xfaefb423 ∷ 0xfa0fb823 ∷ 0xfa0fbc23 ∷
    0xf80f8293 ∷ 0xf05fb023 ∷ 0xf40fb283 ∷ 0xfe028ee3 ∷ 0xf40fb023 ∷ 0xf80fb503 ∷ 0x341020f3 ∷ 0x408093 ∷
    0x34109073 ∷ 0x8fb083 ∷ 0x10fb103 ∷ 0x18fb183 ∷ 0x20fb203 ∷ 0x28fb283 ∷ 0x30fb303 ∷ 0x38fb383 ∷
    0x40fb403 ∷ 0x48fb483 ∷ 0x58fb583 ∷ 0x60fb603 ∷ 0x68fb683 ∷ 0x70fb703 ∷ 0x78fb783 ∷ 0x80fb803 ∷
    0x88fb883 ∷ 0x90fb903 ∷ 0x98fb983 ∷ 0xa0fba03 ∷ 0xa8fba83 ∷ 0xb0fbb03 ∷ 0xb8fbb83 ∷ 0xc0fbc03 ∷
    0xc8fbc83 ∷ 0xd0fbd03 ∷ 0xd8fbd83 ∷ 0xe0fbe03 ∷ 0xe8fbe83 ∷ 0xf0fbf03 ∷ 0xf8fbf83 ∷ 0x30200073 ∷
    0x34102af3 ∷ 0x34302b73 ∷ 0x10100f13 ∷ 0x30f1f13 ∷ 0x200313 ∷ 0xc629e63 ∷ 0x7fb7313 ∷ 0x7300393 ∷
    0xc731863 ∷ 0xcb5313 ∷ 0x337313 ∷ 0xc030263 ∷ 0x19b5313 ∷ 0x6000393 ∷ 0xa731c63 ∷ 0x7c00b93 ∷
    0x7000513 ∷ 0x1b0000ef ∷ 0x6b00513 ∷ 0x1a8000ef ∷ 0x3a00513 ∷ 0x1a0000ef ∷ 0x2000513 ∷ 0x198000ef ∷
    0x6300513 ∷ 0x190000ef ∷ 0x6f00513 ∷ 0x188000ef ∷ 0x7500513 ∷ 0x180000ef ∷ 0x6e00513 ∷ 0x178000ef ∷
    0x7400513 ∷ 0x170000ef ∷ 0x6500513 ∷ 0x168000ef ∷ 0x7200513 ∷ 0x160000ef ∷ 0x2000513 ∷ 0x158000ef ∷
    0x7200513 ∷ 0x150000ef ∷ 0x6500513 ∷ 0x148000ef ∷ 0x6100513 ∷ 0x140000ef ∷ 0x6400513 ∷ 0x138000ef ∷
    0x2000513 ∷ 0x130000ef ∷ 0x6100513 ∷ 0x128000ef ∷ 0x7400513 ∷ 0x120000ef ∷ 0x2000513 ∷ 0x118000ef ∷
    0xa8913 ∷ 0x4000993 ∷ 0xe00016f ∷ 0xd00006f ∷ 0x8028b93 ∷ 0x28a13 ∷ 0x7000513 ∷ 0xf8000ef ∷
    0x6b00513 ∷ 0xf0000ef ∷ 0x3a00513 ∷ 0xe8000ef ∷ 0x2000513 ∷ 0xe0000ef ∷ 0x7400513 ∷ 0xd8000ef ∷
    0x7200513 ∷ 0xd0000ef ∷ 0x6100513 ∷ 0xc8000ef ∷ 0x7000513 ∷ 0xc0000ef ∷ 0x2000513 ∷ 0xb8000ef ∷
    0xa0913 ∷ 0x800993 ∷ 0x800016f ∷ 0x2000513 ∷ 0xa4000ef ∷ 0x6100513 ∷ 0x9c000ef ∷ 0x7400513 ∷
    0x94000ef ∷ 0x2000513 ∷ 0x8c000ef ∷ 0xa8913 ∷ 0x4000993 ∷ 0x540016f ∷ 0x2000513 ∷ 0x78000ef ∷
    0x7600513 ∷ 0x70000ef ∷ 0x6100513 ∷ 0x68000ef ∷ 0x6c00513 ∷ 0x60000ef ∷ 0x7500513 ∷ 0x58000ef ∷
    0x6500513 ∷ 0x50000ef ∷ 0x2000513 ∷ 0x48000ef ∷ 0xb0913 ∷ 0x4000993 ∷ 0x100016f ∷ 0xa00513 ∷
    0x34000ef ∷ 0x440006f ∷ 0xffc98993 ∷ 0x1395533 ∷ 0xf57513 ∷ 0xa53313 ∷ 0xfff30313 ∷ 0x2737313 ∷
    0x650533 ∷ 0x3050513 ∷ 0xc000ef ∷ 0xfc099ee3 ∷ 0x10067 ∷ 0x1e50533 ∷ 0xf00fb303 ∷ 0xfe031ee3 ∷
    0xf0afb023 ∷ 0x8067 ∷ 0x1b9513 ∷ 0x150513 ∷ 0xf00fb303 ∷ 0xfe031ee3 ∷ 0xf0afb023 ∷ 0x6f ∷
    []

-- how many instructions they are
abbrev pub kernel_count : ℕ
kernel_count = 336
