use Rattle.std.proofs.Common.{◌≡◌, ℕ, List, length, set, Some, None, Option, sym, ap, ◌∙◌, subst, true, arith}
use Rattle.std.specs.List.{position, swap_remove}
use Rattle.std.specs.Option.{IsSome}
use Rattle.std.specs.Prelude.{◌==◌}
use Rattle.arrayvec.proofs.ArrayVecLemmas.{items-with_items}
use Rattle.holders.specs.declared.key.Key.{Key}
use Rattle.holders.specs.Keys.{keyed}
use Rattle.ordered.specs.Heaps.{Entered, InOrder, InOrderBut}
use Rattle.ordered.specs.declared.agenda.OrderedAgenda.{OrderedAgenda}
use Rattle.ordered.proofs.Agendas.{Removed, is_found, found_at, removed}
use Rattle.ordered.proofs.agenda.OrderedAgenda.take_out.Goals as goal

-- what is left when p was found among the entries and its entry is out
left : (a : OrderedAgenda) (p d : ℕ) {entries row' : List ℕ} {ks' : List (Option Key)} {o : Option ℕ} {i : ℕ} → keyed a.table.keys p ≡ true
    → entries ≡ a.entries.items → o ≡ position (λ q. q == p) entries → o ≡ Some i
    → ks' ≡ set a.table.keys p None → row' ≡ swap_remove a.entries.items i d → Removed ks' row' i
left a p d {entries} {row'} {ks'} {o} {i} kp now looked e k r =
    let f = found_at a p i (sym (looked ∙ ap (position (λ q. q == p)) now) ∙ e) in
    subst (λ row. Removed ks' row i) (sym r) (removed a ks' p i d kp f.0 f.1 k)

pub unwrap-i-requires : goal.unwrap-i-requires
unwrap-i-requires c =
    subst IsSome (sym (c.index_of.ensures ∙ ap (position (λ q. q == c.args.p)) c.deref.ensures.0)) (is_found c.args.self.now c.args.p c.requires)

pub settle-requires-clause-entered : goal.settle-requires-clause-entered
settle-requires-clause-entered c =
    let rest = left c.args.self.now c.args.p c.swap_remove.result c.requires c.deref.ensures.0 c.index_of.ensures c.unwrap-i.ensures c.unkey.ensures.changed c.swap_remove.ensures.items in
    subst (Entered c.unkey.new.self.keys) (sym c.deref_mut.ensures.value) rest.entered

pub settle-requires-clause-near : goal.settle-requires-clause-near
settle-requires-clause-near c =
    let rest = left c.args.self.now c.args.p c.swap_remove.result c.requires c.deref.ensures.0 c.index_of.ensures c.unwrap-i.ensures c.unkey.ensures.changed c.swap_remove.ensures.items in
    subst (λ row. InOrderBut c.unkey.new.self.keys row c.unwrap-i.result) (sym c.deref_mut.ensures.value) (rest.near (omega arith))

pub invariant_of-self : goal.invariant_of-self
invariant_of-self c =
    let rest = left c.args.self.now c.args.p c.swap_remove.result c.requires c.deref.ensures.0 c.index_of.ensures c.unwrap-i.ensures c.unkey.ensures.changed c.swap_remove.ensures.items in
    let ks = c.unkey.new.self.keys in
    let long : length c.settle.new.entries ≡ length c.swap_remove.new.self.items = c.settle.auto.entries ∙ ap length c.deref_mut.ensures.value in
    let back = items-with_items c.swap_remove.new.self c.settle.new.entries long in record {
      tallied = ap length back ∙ long ∙ rest.tallied;
      entered = subst (Entered ks) (sym back) c.settle.ensures.entered;
      in_order = subst (InOrder ks) (sym back) c.settle.ensures.in_order;
    }

pub invariant_of-self-else-i-len : goal.invariant_of-self-else-i-len
invariant_of-self-else-i-len c =
    let rest = left c.args.self.now c.args.p c.swap_remove.result c.requires c.deref.ensures.0 c.index_of.ensures c.unwrap-i.ensures c.unkey.ensures.changed c.swap_remove.ensures.items in
    record { tallied = rest.tallied; entered = rest.entered; in_order = rest.in_order (omega arith) }
