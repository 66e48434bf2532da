-- The graph that never collects: what the calls mean to a planner.
use Rattle.std.specs.Prelude.{ℕ, zero, suc, ◌+◌, ◌-◌, ◌<◌, Bool, cond, not, List, [], ◌∷◌, ◌++◌, length, replicate, Some, None, Ok, Err, Option, Result, ◌==◌, nat_le, nat_lt, slice_index, slice_index_or, slice_set}
use Rattle.calls.specs.declared.Call.{Call}
use Rattle.calls.specs.declared.Call.TheVariants.{Make, Load, Store, Read, Write, Copy, Clear, Same, Shape, Schedule, Next, Begin, Step, Count}
use Rattle.calls.specs.declared.Answer.{Answer}
use Rattle.calls.specs.declared.Answer.TheVariants as answer
use Rattle.calls.specs.declared.Refusal.{Refusal}
use Rattle.calls.specs.declared.Refusal.TheVariants.{NoSuchPlace, TooLarge, Nil, NoSuchReference, NoSuchWord, AgendaFull, TimePassed, SerialsUsedUp, NoEvent}
use Rattle.holders.specs.declared.key.Key.{Key}
use Rattle.holders.specs.Keys.{key_before}
use Rattle.model.specs.Refusals.{first_refusal}

-- records are numbered from 1 in the order in which they are made; a reference, a place or an event names one, or 0 for nil
pub record Record : Type 0 where
  pub refs : List ℕ
  pub words : List ℕ

pub record Event : Type 0 where
  pub key : Key
  pub names : ℕ

pub record Graph : Type 0 where
  pub records : List Record
  pub places : List ℕ
  pub events : List Event
  pub clock : ℕ
  pub serial : ℕ

-- a graph with `h` places and nothing in it
abbrev pub empty : ℕ → Graph
empty h = record { records = []; places = replicate h 0; events = []; clock = 0; serial = 0 }

abbrev pub no_such_record : Record
no_such_record = record { refs = []; words = [] }

abbrev pub record_at : Graph → ℕ → Record
record_at g zero = no_such_record
record_at g (suc o) = slice_index_or g.records o no_such_record

abbrev pub in_place : Graph → ℕ → ℕ
in_place g p = slice_index g.places p

abbrev pub with_place : Graph → ℕ → ℕ → Graph
with_place g p o = record { records = g.records; places = slice_set g.places p o; events = g.events; clock = g.clock; serial = g.serial }

abbrev pub with_record : Graph → ℕ → Record → Graph
with_record g o r = record { records = slice_set g.records (o - 1) r; places = g.places; events = g.events; clock = g.clock; serial = g.serial }

-- events come by their keys
abbrev pub before : Event → Event → Bool
before a b = key_before a.key b.key

-- the first of the events, and the others
abbrev pub split_first : Event → List Event → Event × List Event
split_first e [] = (e, [])
split_first e (x ∷ xs) = let r = split_first (cond (before x e) x e) xs in (r.0, cond (before x e) e x ∷ r.1)

-- next: the first event goes, place `p` gets its record, and the clock its time
abbrev pub popped : Graph → ℕ → List Event → Graph
popped g p [] = g
popped g p (e ∷ es) =
    let r = split_first e es in
    record { records = g.records; places = slice_set g.places p r.0.names; events = r.1; clock = r.0.key.time; serial = g.serial }

abbrev pub first_time : List Event → Answer
first_time [] = answer.Done
first_time (e ∷ es) = answer.Time (split_first e es).0.key.time

-- what a granted call makes of the graph
abbrev pub graph_after : Call → Graph → Graph
graph_after (Make p r d) g = record {
  records = g.records ++ record { refs = replicate r 0; words = replicate d 0 } ∷ [];
  places = slice_set g.places p (suc (length g.records));
  events = g.events;
  clock = g.clock;
  serial = g.serial;
}
graph_after (Load p q f) g = with_place g p (slice_index (record_at g (in_place g q)).refs f)
graph_after (Store q f p) g =
    let r = record_at g (in_place g q) in with_record g (in_place g q) (record { refs = slice_set r.refs f (in_place g p); words = r.words })
graph_after (Read q w) g = g
graph_after (Write q w v) g =
    let r = record_at g (in_place g q) in with_record g (in_place g q) (record { refs = r.refs; words = slice_set r.words w v })
graph_after (Copy p q) g = with_place g p (in_place g q)
graph_after (Clear p) g = with_place g p 0
graph_after (Same p q) g = g
graph_after (Shape q) g = g
graph_after (Schedule t p) g = record {
  records = g.records;
  places = g.places;
  events = record { key = record { time = t; serial = g.serial }; names = in_place g p } ∷ g.events;
  clock = g.clock;
  serial = suc g.serial;
}
graph_after (Next p) g = popped g p g.events
graph_after Begin g = g
graph_after (Step u) g = g
graph_after Count g = g

-- what a granted call answers; step and count are answered from the store
abbrev pub graph_reply : Call → Graph → Answer
graph_reply (Make p r d) g = answer.Done
graph_reply (Load p q f) g = answer.Done
graph_reply (Store q f p) g = answer.Done
graph_reply (Read q w) g = answer.Word (slice_index (record_at g (in_place g q)).words w)
graph_reply (Write q w v) g = answer.Done
graph_reply (Copy p q) g = answer.Done
graph_reply (Clear p) g = answer.Done
graph_reply (Same p q) g = answer.Same (in_place g p == in_place g q)
graph_reply (Shape q) g = answer.Shape (length (record_at g (in_place g q)).refs) (length (record_at g (in_place g q)).words)
graph_reply (Schedule t p) g = answer.Done
graph_reply (Next p) g = first_time g.events
graph_reply Begin g = answer.Done
graph_reply (Step u) g = answer.Done
graph_reply Count g = answer.Done

-- the conditions of refusal that the graph decides, with `a` places in the agenda, in the order in which they count
abbrev pub absent : Graph → ℕ → Bool
absent g p = not (nat_lt p (length g.places))

abbrev pub names_nil : Graph → ℕ → Bool
names_nil g p = in_place g p == 0

abbrev pub lacks_reference : Graph → ℕ → ℕ → Bool
lacks_reference g q f = not (nat_lt f (length (record_at g (in_place g q)).refs))

abbrev pub lacks_word : Graph → ℕ → ℕ → Bool
lacks_word g q w = not (nat_lt w (length (record_at g (in_place g q)).words))

abbrev pub graph_conditions : Call → Graph → ℕ → List (Bool × Refusal)
graph_conditions (Make p r d) g a = (absent g p, NoSuchPlace) ∷ (nat_lt 30 (r + d), TooLarge) ∷ []
graph_conditions (Load p q f) g a = (absent g p, NoSuchPlace) ∷ (absent g q, NoSuchPlace) ∷ (names_nil g q, Nil) ∷ (lacks_reference g q f, NoSuchReference) ∷ []
graph_conditions (Store q f p) g a = (absent g q, NoSuchPlace) ∷ (absent g p, NoSuchPlace) ∷ (names_nil g q, Nil) ∷ (lacks_reference g q f, NoSuchReference) ∷ []
graph_conditions (Read q w) g a = (absent g q, NoSuchPlace) ∷ (names_nil g q, Nil) ∷ (lacks_word g q w, NoSuchWord) ∷ []
graph_conditions (Write q w v) g a = (absent g q, NoSuchPlace) ∷ (names_nil g q, Nil) ∷ (lacks_word g q w, NoSuchWord) ∷ []
graph_conditions (Copy p q) g a = (absent g p, NoSuchPlace) ∷ (absent g q, NoSuchPlace) ∷ []
graph_conditions (Clear p) g a = (absent g p, NoSuchPlace) ∷ []
graph_conditions (Same p q) g a = (absent g p, NoSuchPlace) ∷ (absent g q, NoSuchPlace) ∷ []
graph_conditions (Shape q) g a = (absent g q, NoSuchPlace) ∷ (names_nil g q, Nil) ∷ []
graph_conditions (Schedule t p) g a =
    (absent g p, NoSuchPlace) ∷ (names_nil g p, Nil) ∷ (nat_le a (length g.events), AgendaFull) ∷ (nat_lt t g.clock, TimePassed)
    ∷ ((g.serial == 4294967295), SerialsUsedUp) ∷ []
graph_conditions (Next p) g a = (absent g p, NoSuchPlace) ∷ ((length g.events == 0), NoEvent) ∷ []
graph_conditions Begin g a = []
graph_conditions (Step u) g a = []
graph_conditions Count g a = []

abbrev pub graph_refusal : Call → Graph → ℕ → Option Refusal
graph_refusal c g a = first_refusal (graph_conditions c g a)

-- any call on any graph with `a` places in its agenda: the graph after it, unchanged where it is refused, and the answer
abbrev pub graph_decided : Option Refusal → Graph → Graph → Answer → Graph × Result Answer Refusal
graph_decided None g h r = (h, Ok r)
graph_decided (Some n) g h r = (g, Err n)

abbrev pub graph_apply : ℕ → Call → Graph → Graph × Result Answer Refusal
graph_apply a c g = graph_decided (graph_refusal c g a) g (graph_after c g) (graph_reply c g)

pub data Member {A : Type 0} : A → List A → Type 0 where
  here : {x : A} {xs : List A} → Member x (x ∷ xs)
  there : {x y : A} {xs : List A} → Member x xs → Member x (y ∷ xs)

-- the graph reaches a record that a place, an event or a reference of a reached record names
pub data Reached (g : Graph) : ℕ → Type 0 where
  from_place : {o : ℕ} → 0 < o → Member o g.places → Reached g o
  from_event : {e : Event} → Member e g.events → Reached g e.names
  from_ref : {o p : ℕ} → 0 < p → Reached g o → Member p (record_at g o).refs → Reached g p
