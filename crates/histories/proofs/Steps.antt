-- Every call keeps a history orderly.
use Rattle.std.proofs.Common.{◌≡◌, ℕ, suc, ◌<◌, ◌≤◌, Bool, true, false, cond, eqb, List, [], ◌∷◌, ◌++◌, length, Some, None, Ok, Option, sym, refl, ap, ◌∙◌, subst, ⊎_elim, arith}
use Rattle.std.proofs.lemmas.Bool.{true≢false, ltb-false, leb-false}
use Rattle.calls.specs.declared.Call.{Call}
use Rattle.calls.specs.declared.Call.TheVariants.{Make, Load, Store, Read, Write, Copy, Clear, Same, Shape, Schedule, Next, Begin, Step, Count}
use Rattle.calls.specs.declared.Refusal.{Refusal}
use Rattle.holders.specs.declared.key.Key.{Key}
use Rattle.model.specs.Graph.{Event, Graph, Member, before, split_first, popped, graph_after, graph_reply, graph_conditions, graph_refusal, graph_decided, graph_apply, in_place}
use Rattle.model.specs.Refusals.{first_refusal}
use Rattle.histories.specs.Histories.{History, extend, extend_by, outset, history, history_from, with_first}
use Rattle.histories.specs.Order.{Orderly, OrderlyHistory, Continues}
use Rattle.histories.proofs.Keys.{other_way, not_before_time, before_new}
use Rattle.histories.proofs.Splits.{Distinct, split_splits}
use Rattle.histories.proofs.Members.{member_none, member_cons}

-- what the calls keep: besides order, that no two events to come have one key, and that no event taken is after the clock
pub record Kept (a : ℕ) (events : List Event) (clock serial : ℕ) (taken : List Event) (schedules nexts : ℕ) : Type 0 where
  pub orderly : Orderly a events clock serial taken schedules nexts
  pub distinct : Distinct events
  pub past : (x : Event) → Member x taken → x.key.time ≤ clock

abbrev pub KeptHistory : ℕ → History → Type 0
KeptHistory a h = Kept a h.graph.events h.graph.clock h.graph.serial h.taken h.schedules h.nexts

pub kept_outset : (a places : ℕ) → KeptHistory a (outset places)
kept_outset a places = record {
  orderly = record {
    in_order = tt;
    ahead = λ e x m i. member_none m;
    on_time = refl;
    none_missed = λ e m. member_none m;
    counted = refl;
    used = λ e m. member_none m;
    used_up = λ x i. member_none i;
    one_each = refl;
    balanced = refl;
    room = omega arith;
  };
  distinct = tt;
  past = λ x i. member_none i;
}

-- a property of each event of a longer row
each : (P : Event → Type 0) (e : Event) (es : List Event) → P e → ((x : Event) → Member x es → P x) → (x : Event) → Member x (e ∷ es) → P x
each P e es p ps x m = ⊎_elim (λ (q : x ≡ e). subst P (sym q) p) (λ n. ps x n) (member_cons m)

pub kept_schedule : (a : ℕ) (es : List Event) (clock serial : ℕ) (taken : List Event) (schedules nexts : ℕ) → Kept a es clock serial taken schedules nexts →
    (t o : ℕ) → length es < a → clock ≤ t → Kept a (record { key = record { time = t; serial = serial }; names = o } ∷ es) clock (suc serial) taken (suc schedules) nexts
kept_schedule a es clock serial taken schedules nexts k t o free late =
    let l = k.orderly in
    let new : Event = record { key = record { time = t; serial = serial }; names = o } in
    record {
      orderly = record {
        in_order = l.in_order;
        ahead = λ e x m i.
            each (λ y. before x y ≡ true) new es
            (before_new x.key new.key (omega (arith, k.past x i)) (l.used_up x i))
            (λ y j. l.ahead y x j i) e m;
        on_time = l.on_time;
        none_missed = each (λ y. clock ≤ y.key.time) new es late l.none_missed;
        counted = ap suc l.counted;
        used = each (λ y. y.key.serial < suc serial) new es (omega arith) (λ y j. let u = l.used y j in omega arith);
        used_up = λ x i. let u = l.used_up x i in omega arith;
        one_each = l.one_each;
        balanced = omega (arith, l.balanced);
        room = omega arith;
      };
      distinct = ((λ x m e. let u = l.used x m in let s : x.key.serial ≡ serial = ap (λ (q : Key). q.serial) e in omega arith), k.distinct);
      past = k.past;
    }

pub kept_next : (a : ℕ) (e : Event) (es : List Event) (clock serial : ℕ) (taken : List Event) (schedules nexts : ℕ) → Kept a (e ∷ es) clock serial taken schedules nexts →
    let r = split_first e es in Kept a r.1 r.0.key.time serial (r.0 ∷ taken) schedules (suc nexts) × (clock ≤ r.0.key.time)
kept_next a e es clock serial taken schedules nexts k =
    let l = k.orderly in
    let s = split_splits e es in
    let first = (split_first e es).0 in
    let rest = (split_first e es).1 in
    let unlike = s.distinct k.distinct in (
      record {
        orderly = record {
          in_order = ((λ x i. l.ahead first x s.found i), l.in_order);
          ahead = λ y x m i.
              each (λ z. before z y ≡ true) first taken
              (other_way y.key first.key (s.least y (s.from y m)) (unlike.0 y m))
              (λ z j. l.ahead y z (s.from y m) j) x i;
          on_time = refl;
          none_missed = λ y m. not_before_time y.key first.key (s.least y (s.from y m));
          counted = l.counted;
          used = λ y m. l.used y (s.from y m);
          used_up = each (λ z. z.key.serial < serial) first taken (l.used first s.found) l.used_up;
          one_each = ap suc l.one_each;
          balanced = omega (arith, l.balanced, s.many);
          room = omega (arith, l.room, s.many);
        };
        distinct = unlike.1;
        past = each (λ z. z.key.time ≤ first.key.time) first taken (omega arith)
            (λ z j. let p = k.past z j in let q = l.none_missed first s.found in omega arith);
      },
      l.none_missed first s.found,
    )

kept_popped : (a : ℕ) (g : Graph) (p : ℕ) (es taken : List Event) (schedules nexts : ℕ) → Kept a es g.clock g.serial taken schedules nexts → eqb (length es) 0 ≡ false →
    Kept a (popped g p es).events (popped g p es).clock (popped g p es).serial (with_first es taken) schedules (suc nexts) × (g.clock ≤ (popped g p es).clock)
kept_popped a g p [] taken schedules nexts k some = absurd (true≢false some)
kept_popped a g p (e ∷ es) taken schedules nexts k some = kept_next a e es g.clock g.serial taken schedules nexts k

-- where nothing refuses a call, none of its conditions holds
abbrev NoneHolds : List (Bool × Refusal) → Type 0
NoneHolds [] = Unit {0}
NoneHolds (c ∷ cs) = (c.0 ≡ false) × NoneHolds cs

none_holds : (cs : List (Bool × Refusal)) → None ≡ first_refusal cs → NoneHolds cs
none_holds [] e = tt
none_holds (c ∷ cs) e = go c.0 refl e (λ f. none_holds cs f)
  where
    go : (b : Bool) → c.0 ≡ b → None ≡ cond b (Some c.1) (first_refusal cs) → (None ≡ first_refusal cs → NoneHolds cs) → NoneHolds (c ∷ cs)
    go true q f rest = cc
    go false q f rest = (q, rest f)

module _ (a : ℕ) (h : History) (k : KeptHistory a h) where
  abbrev Onward : History → Type 0
  Onward h' = KeptHistory a h' × (h.graph.clock ≤ h'.graph.clock)

  granted : (c : Call) → None ≡ graph_refusal c h.graph a → Onward (extend_by h c (graph_after c h.graph, Ok (graph_reply c h.graph)))
  granted (Make p r d) e = (k, omega arith)
  granted (Load p q f) e = (k, omega arith)
  granted (Store q f p) e = (k, omega arith)
  granted (Read q w) e = (k, omega arith)
  granted (Write q w v) e = (k, omega arith)
  granted (Copy p q) e = (k, omega arith)
  granted (Clear p) e = (k, omega arith)
  granted (Same p q) e = (k, omega arith)
  granted (Shape q) e = (k, omega arith)
  granted (Schedule t p) e =
      let passed = none_holds (graph_conditions (Schedule t p) h.graph a) e in
      let free : length h.graph.events < a = leb-false a (length h.graph.events) passed.1.1.0 in
      let late : h.graph.clock ≤ t = ltb-false t h.graph.clock passed.1.1.1.0 in
      (kept_schedule a h.graph.events h.graph.clock h.graph.serial h.taken h.schedules h.nexts k t (in_place h.graph p) free late, omega arith)
  granted (Next p) e =
      let passed = none_holds (graph_conditions (Next p) h.graph a) e in
      kept_popped a h.graph p h.graph.events h.taken h.schedules h.nexts k passed.1.0
  granted Begin e = (k, omega arith)
  granted (Step u) e = (k, omega arith)
  granted Count e = (k, omega arith)

  pub onward : (c : Call) → Onward (extend a h c)
  onward c = go (graph_refusal c h.graph a) refl
    where
      go : (o : Option Refusal) → o ≡ graph_refusal c h.graph a → Onward (extend_by h c (graph_decided o h.graph (graph_after c h.graph) (graph_reply c h.graph)))
      go None e = granted c e
      go (Some r) e = (k, omega arith)

-- the calls up to now, and one more
pub one_more : (a : ℕ) (h : History) (cs : List Call) (c : Call) → history_from a h (cs ++ c ∷ []) ≡ extend a (history_from a h cs) c
one_more a h [] c = refl
one_more a h (d ∷ cs) c = one_more a (extend a h d) cs c

pub kept_from : (a : ℕ) (h : History) (cs : List Call) → KeptHistory a h → KeptHistory a (history_from a h cs)
kept_from a h [] k = k
kept_from a h (c ∷ cs) k = kept_from a (extend a h c) cs (onward a h k c).0

pub continues : (a : ℕ) (c : Call) (g : Graph) → Continues a c g (graph_apply a c g).0
continues a c g places cs e =
    let now = history a places cs in
    let more = one_more a (outset places) cs c in
    let on = onward a now (kept_from a (outset places) cs (kept_outset a places)) c in (
      ap (λ (h : History). h.graph) more ∙ ap (λ x. (graph_apply a c x).0) e,
      subst (OrderlyHistory a) (sym more) on.0.orderly,
      subst (λ x. x.clock ≤ (graph_apply a c x).0.clock) e on.1,
    )
