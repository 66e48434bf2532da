use Rattle.std.proofs.Common.{ℕ, ◌/◌, ◌^◌, ◌<◌, eqb, sym, ap, ◌∙◌, arith}
use lib.Bits.{and_mask}
use Rattle.std.proofs.lemmas.Bool.{le-ltb}
use Rattle.model.specs.Maps.{has}
use Rattle.pages.proofs.Bits.{has_past}
use Rattle.pages.proofs.maps.flag.Goals as goal

pub returns-then-s-lt64 : goal.returns-then-s-lt64
unfolding has
returns-then-s-lt64 c = ap (λ (x : ℕ). eqb x 1) (and_mask (c.args.map / 2 ^ c.args.s) 1)

pub returns-else-s-lt64 : goal.returns-else-s-lt64
returns-else-s-lt64 c =
    let l : c.args.map < 2 ^ 64 = omega arith in
    le-ltb c.args.s 64 c.if-s-lt64.false ∙ sym (has_past c.args.map 64 c.args.s l c.if-s-lt64.false)
