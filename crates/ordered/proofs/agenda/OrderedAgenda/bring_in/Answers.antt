use Rattle.std.proofs.Common.{◌≡◌, ℕ, List, length, sym, ap, ◌∙◌, subst, lit<}
use Rattle.arrayvec.proofs.ArrayVecLemmas.{items-with_items}
use Rattle.holders.specs.Keys.{sooner}
use Rattle.ordered.specs.Heaps.{at, Above, Entered, InOrder, InOrderBut}
use Rattle.ordered.proofs.Agendas.{room, added}
use Rattle.ordered.proofs.agenda.OrderedAgenda.bring_in.Goals as goal

pub push-requires : goal.push-requires
push-requires c = (lit< tt, room c.args.self.now c.args.p c.requires.within c.requires.unkeyed)

pub rise-requires-clause-entered : goal.rise-requires-clause-entered
rise-requires-clause-entered c =
    let new = added c.args.self.now c.key_place.new.self.keys c.args.p c.args.key c.requires.within c.requires.unkeyed c.key_place.ensures.changed in
    subst (Entered c.key_place.new.self.keys) (sym (c.deref_mut.ensures.value ∙ c.push.ensures.items)) new.entered

pub rise-requires-clause-near : goal.rise-requires-clause-near
rise-requires-clause-near c =
    let ks = c.key_place.new.self.keys in
    let new = added c.args.self.now ks c.args.p c.args.key c.requires.within c.requires.unkeyed c.key_place.ensures.changed in
    let P : List ℕ → ℕ → Type 0 = λ row i. InOrderBut ks row i × Above (sooner ks) (at row) (length row) i in
    subst (P c.deref_mut.result.now) (sym c.len-last.ensures.value)
    (subst (λ row. P row (length c.args.self.now.entries.items)) (sym (c.deref_mut.ensures.value ∙ c.push.ensures.items)) new.near)

pub invariant_of-self : goal.invariant_of-self
invariant_of-self c =
    let ks = c.key_place.new.self.keys in
    let new = added c.args.self.now ks c.args.p c.args.key c.requires.within c.requires.unkeyed c.key_place.ensures.changed in
    let long : length c.rise.new.entries ≡ length c.push.new.self.items = c.rise.auto.entries ∙ ap length c.deref_mut.ensures.value in
    let back = items-with_items c.push.new.self c.rise.new.entries long in record {
      tallied = ap length back ∙ long ∙ ap length c.push.ensures.items ∙ new.tallied;
      entered = subst (Entered ks) (sym back) c.rise.ensures.entered;
      in_order = subst (InOrder ks) (sym back) c.rise.ensures.in_order;
    }
