-- What every run of calls keeps, from a fresh store on.
use Rattle.std.proofs.Common.{◌≡◌, ℕ, zero, suc, ◌+◌, ◌<◌, ◌≤◌, true, false, cond, ◌⊎◌, List, [], ◌∷◌, ◌++◌, length, get_or, replicate, Some, None, Option, sym, refl, ap, ◌∙◌, subst, inl, inr, ⊎_elim, arith}
use Rattle.std.proofs.lemmas.List.{length-replicate, map-id, replicate-append-replicate}
use Rattle.std.proofs.lemmas.Bool.{cases_Bool, cond-false}
use Rattle.calls.specs.declared.Call.{Call}
use Rattle.calls.specs.declared.Call.TheVariants.{Begin}
use Rattle.calls.specs.declared.Refusal.{Refusal}
use Rattle.holders.specs.declared.key.Key.{Key}
use Rattle.model.specs.Pages.{Block, Page, block_at, occupied, uncut}
use Rattle.model.specs.State.{Phase, State, fresh, idle, marking, moving, roots, running, sweeping}
use Rattle.model.specs.Refusals.{conditions, refusal}
use Rattle.model.specs.Calls.{decided, outcome, reply}
use Rattle.model.specs.Graph.{Graph, Member, Reached, Record, empty, from_event, from_place, from_ref, graph_after, no_such_record, record_at}
use Rattle.model.specs.Runs.{Run, extend, extend_by, granted, is_begin, run_from, start}
use Rattle.theory.proofs.PageShapes.{fresh_ok}
use Rattle.theory.proofs.RunBounds.{begin_is, fresh_none, records_after}
use Rattle.histories.proofs.Members.{member_none}
use Rattle.theory.proofs.Lists.{in_zeros, map_same, member_in, none_some, replicate_at}
use Rattle.theory.proofs.Records.{find, find_in}
use Rattle.theory.proofs.Places.{StoreStands}
use Rattle.theory.proofs.Events.{Agenda}
use Rattle.theory.proofs.Wanted.{Stored, Wants, begin_stands, later, null, reach_stored, reached_pos, reached_reach, view}
use Rattle.theory.proofs.Following.{Follows, all_passed, call_follows}

pub record Invariant (r : Run) : Type 0 where
  pub standing : Follows (Wants r.began) r.state r.graph r.owner
  pub range : (x : ℕ) → Reached r.began x → (0 < x) × (x ≤ length r.graph.records)

pub not_running : (ph : Phase) → running ph ≡ false → ph ≡ idle
not_running idle e = refl
not_running (roots i) e = cc
not_running marking e = cc
not_running (sweeping g) e = cc
not_running (moving k s i) e = cc

-- every reached record is one of the graph's
pub reached_range : {T : ℕ → Type 0} {s : State} {g : Graph} {own : ℕ → ℕ} → Follows T s g own → (x : ℕ) → Reached g x
    → (0 < x) × (x ≤ length g.records)
reached_range {T} {s} {g} {own} a x r =
    let p = reached_pos g a.agenda r in (
      p,
      ⊎_elim
          (λ (z : x ≡ 0). absurd (omega (arith, p, z)))
          (λ (c : Stored s (view g a.named) own x). (find_in g.records x _ c.contents).1)
          (reach_stored a.store x (reached_reach g a.agenda r)),
    )

begin_follows : {T : ℕ → Type 0} {s : State} {g : Graph} {own : ℕ → ℕ} → refusal Begin s ≡ None → Follows T s g own
    → Follows (Wants g) (outcome Begin s) g own
begin_follows {T} {s} {g} {own} e a =
    let x = all_passed (conditions Begin s) e in
    record {
      named = a.named;
      store = begin_stands g a.agenda T s own (not_running s.heap.phase x.0) a.store;
      agenda = a.agenda;
      clock = a.clock;
      serial = a.serial;
    }

granted_invariant : (r : Run) (c : Call) → refusal c r.state ≡ None → Invariant r → Invariant (granted r c (outcome c r.state))
granted_invariant r c e k = go (cases_Bool (is_begin c))
  where
    s : State
    s = r.state

    go : (is_begin c ≡ true) ⊎ (is_begin c ≡ false) → Invariant (granted r c (outcome c r.state))
    go (inl i) =
        let q : c ≡ Begin = begin_is c i in
        let z : Invariant (granted r Begin (outcome Begin r.state)) = record {
          standing = begin_follows (subst (λ c. refusal c r.state ≡ None) q e) k.standing;
          range = reached_range k.standing;
        } in
        subst (λ c. Invariant (granted r c (outcome c r.state))) (sym q) z
    go (inr i) =
        let x : cond (is_begin c) r.graph r.began ≡ r.began = cond-false (is_begin c) r.graph r.began i in
        let a = call_follows k.standing c i e in
        record {
          standing = subst (λ (g : Graph). Follows (Wants g) (outcome c r.state) (graph_after c r.graph) (granted r c (outcome c r.state)).owner) (sym x) a;
          range = λ y m. let z = k.range y (subst (λ (g : Graph). Reached g y) x m) in (z.0, omega (arith, z.1, records_after c r.graph));
        }

pub extend_invariant : (r : Run) (c : Call) → Invariant r → Invariant (extend r c)
extend_invariant r c k = go (refusal c r.state) refl
  where
    go : (o : Option Refusal) → refusal c r.state ≡ o
        → Invariant (extend_by r c (decided o r.state (outcome c r.state) (reply c r.state)))
    go None e = granted_invariant r c e k
    go (Some n) e = k

pub run_invariant : (cs : List Call) (r : Run) → Invariant r → Invariant (run_from r cs)
run_invariant [] r k = k
run_invariant (c ∷ cs) r k = run_invariant cs (extend r c) (extend_invariant r c k)

abbrev all_uncut : List Page
all_uncut = replicate 64 uncut

no_block : {P : Type 0} (n : ℕ) (b : Block) → block_at all_uncut n ≡ Some b → P
no_block n b e = none_some b (sym (fresh_none n) ∙ e)

no_node : (x : ℕ) → find [] x ≡ None
no_node zero = refl
no_node (suc k) = refl

all_wanted : (h x : ℕ) → Wants (empty h) x
all_wanted h zero = null
all_wanted h (suc x) = later (omega arith)

zeros_at : (h a k : ℕ) → ◌≡◌ {A = ℕ} (get_or (replicate h 0 ++ replicate a 0) k 0) 0
zeros_at h a k = ap (λ (xs : List ℕ). get_or xs k 0) (replicate-append-replicate h a 0) ∙ replicate_at (h + a) k 0

start_stands : (h a : ℕ) → StoreStands (Wants (empty h)) (fresh h a) (view (empty h) (replicate a 0)) (λ n. 0)
start_stands h a = record {
  at = record {
    closed = record { none = null; roots = λ y i. all_wanted h y; refs = λ x d y t e i. all_wanted h y; more = λ x l. all_wanted h x };
    pages = fresh_ok;
    stands = record {
      sound = record { zero_free = refl; forwards = λ n b e. no_block n b e; marks = λ n b e t. no_block n b e };
      mirror = record {
        none = refl;
        there = λ n o. no_block n o.0 o.1;
        contents = λ n b o e f. no_block n b e;
        one = λ m n o p e f i. no_block m o.0 o.1;
        good = λ n b r o e f i. no_block n b e;
        roots = λ r i. inl (sym i.is ∙ zeros_at h a i.at);
        holds = map_same (replicate h 0 ++ replicate a 0) (λ r i. sym (sym i.is ∙ zeros_at h a i.at)) ∙ map-id (replicate h 0 ++ replicate a 0);
      };
      held = record { only = λ n o. null; all = λ x d t e. none_some d (sym (no_node x) ∙ e) };
    };
    clean = λ m x e. no_block m x e;
  };
  many = refl;
  wide = refl;
}

abbrev unkeyed : ℕ → List (Option Key)
unkeyed a = replicate a None

unkeyed_none : (a : ℕ) → occupied (unkeyed a) ≡ 0
unkeyed_none zero = refl
unkeyed_none (suc a) = unkeyed_none a

start_agenda : (a : ℕ) → Agenda (unkeyed a) (replicate a 0) [] 0
start_agenda a = record {
  planned = λ i k e. no i k e;
  met = λ e m. member_none m;
  apart = λ i j k l e f g. no i k e;
  distinct = tt;
  below = λ i k e. no i k e;
  empty = λ i e. replicate_at a i 0;
  full = λ i k e. no i k e;
  many = sym (unkeyed_none a);
  wide = length-replicate a None ∙ sym (length-replicate a 0);
}
  where
    no : {P : Type 0} (i : ℕ) (k : Key) → get_or (unkeyed a) i None ≡ Some k → P
    no i k e = none_some k (sym (replicate_at a i None) ∙ e)

start_none : (h x : ℕ) → Reached (empty h) x → ⊥
start_none h x (from_place p m) = let z = in_zeros h x (member_in m) in omega (arith, p, z)
start_none h x (from_event m) = member_none m
start_none h x (from_ref {o} p r m) = member_none (subst (λ (d : Record). Member x d.refs) (nothing o) m)
  where
    nothing : (o : ℕ) → record_at (empty h) o ≡ no_such_record
    nothing zero = refl
    nothing (suc o) = refl

pub start_invariant : (h a : ℕ) → Invariant (start h a)
start_invariant h a = record {
  standing = record { named = replicate a 0; store = start_stands h a; agenda = start_agenda a; clock = refl; serial = refl };
  range = λ x r. absurd (start_none h x r);
}
