use Rattle.std.proofs.Common.{◌≡◌, ℕ, true, false, sym, refl, ap, ◌∙◌, arith}
use lib.Bits.{bit_and, and_le_l}
use Rattle.std.proofs.lemmas.Bool.{eq-eqb, ne_eqb, both_ways, and_parts}
use Rattle.model.specs.Maps.{has}
use Rattle.pages.specs.View.{page_view}
use Rattle.pages.proofs.Bits.{has_none, has_and}
use Rattle.pages.proofs.Views.{swept_some, swept_none, view_uncut}
use Rattle.pages.proofs.entry.Entry.sweep.Goals as goal

-- no mark is left
no_mark : (o s : ℕ) → has 0 s ≡ true → has o s ≡ true
no_mark o s on = absurd (both_ways (has 0 s) (has_none s) on)

pub invariant_of-self-else-self-eq0 : goal.invariant_of-self-else-self-eq0
invariant_of-self-else-self-eq0 c =
    let e = c.args.self.now in
    let l = and_le_l e.occupied e.marked in
    let b = e.below in
    let some = c.if-self-eq0.false in record {
      below = omega arith;
      few = e.few;
      within = no_mark (bit_and e.occupied e.marked);
      blank = λ z. let o = (e.blank z).1 in (refl, (let n : bit_and e.occupied e.marked ≡ 0 = omega arith in n), refl);
      inhabited = (λ l. omega (arith, some));
    }

pub returns-then-self-eq0 : goal.returns-then-self-eq0
returns-then-self-eq0 c =
    let e = c.args.self.now in
    record {
      view = λ ws.
          ap (λ (x : ℕ). page_view 0 false x 0 ws) c.if-self-eq0.true
          ∙ view_uncut ws ∙ swept_none e.size e.closed e.occupied e.marked ws e.below (eq-eqb (bit_and e.occupied e.marked) 0 c.if-self-eq0.true);
      fewer = λ s on. absurd (both_ways (has (bit_and e.occupied e.marked) s) (ap (λ (x : ℕ). has x s) c.if-self-eq0.true ∙ has_none s) on);
    }

pub returns-else-self-eq0 : goal.returns-else-self-eq0
returns-else-self-eq0 c =
    let e = c.args.self.now in
    record {
      view = λ ws. swept_some e.size e.closed e.occupied e.marked ws e.below (ne_eqb (bit_and e.occupied e.marked) 0 c.if-self-eq0.false);
      fewer = λ s on. ((and_parts (has e.occupied s) (has e.marked s) (sym (has_and e.occupied e.marked s) ∙ on)).0, refl);
    }
