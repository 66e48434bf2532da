-- Worked lines.
use Rattle.std.proofs.Common.{◌≡◌, [], ◌∷◌, replicate, codes, refl}
use Rattle.calls.specs.declared.Call.TheVariants.{Make, Count}
use Rattle.script.specs.Lines.{is_call, is_remark, no_call, meaning}

made : meaning (codes "M\t1\t20\t4294967295") ≡ is_call (Make 1 20 4294967295)
unfolding meaning
made = refl

counted : meaning (codes "T") ≡ is_call Count
unfolding meaning
counted = refl

too_large : meaning (codes "G\t4294967296") ≡ no_call
unfolding meaning
too_large = refl

zero_led : meaning (codes "G\t01") ≡ no_call
unfolding meaning
zero_led = refl

tab_last : meaning (codes "T\t") ≡ no_call
unfolding meaning
tab_last = refl

plus : meaning (codes "G\t+1") ≡ no_call
unfolding meaning
plus = refl

empty : meaning [] ≡ no_call
unfolding meaning
empty = refl

noted : meaning (35 ∷ replicate 79 120) ≡ is_remark (35 ∷ replicate 79 120)
unfolding meaning
noted = refl

long : meaning (35 ∷ replicate 80 120) ≡ no_call
unfolding meaning
long = refl
