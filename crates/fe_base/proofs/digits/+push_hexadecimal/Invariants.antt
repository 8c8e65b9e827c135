use Rattle.fe_base.proofs.digits.+push_hexadecimal.Given as goal

abbrev pub decreases-push_hexadecimal : goal.decreases-push_hexadecimal
decreases-push_hexadecimal g l = l.digits
