-- What the program's graph stands for: the graph of the definitions.
use Rattle.std.specs.Prelude.{◌≡◌, ℕ, ◌+◌, ◌<◌, List, [], ◌∷◌, map, Some, None, vec_items, vec_len, Option, slice_index_or, slice_set}
use Rattle.model.specs.Graph as model
use Rattle.graph.specs.declared.Graph.{Graph}
use Rattle.graph.specs.declared.events.Event.{Event}
use Rattle.graph.specs.declared.records.Record.{Record}
use Rattle.graph.specs.declared.rows.Row.{Row}
use Rattle.graph.specs.declared.rows.Row.TheVariants as row

abbrev pub record_of : Record → model.Record
record_of r = record { refs = vec_items r.references; words = vec_items r.words }

abbrev pub event_of : Event → model.Event
event_of e = record { key = e.key; names = e.names }

-- the first of the events, if there is one, and the others
abbrev pub first_out : List model.Event → Option model.Event × List model.Event
first_out [] = (None, [])
first_out (e ∷ es) = let r = model.split_first e es in (Some r.0, r.1)

abbrev pub graph_of : Graph → model.Graph
graph_of g = record {
  records = map record_of (vec_items g.records);
  places = vec_items g.places;
  events = map event_of (vec_items g.events);
  clock = g.clock;
  serial = g.serial;
}

-- the event of a time, for the record in a place
abbrev pub event_at : model.Graph → ℕ → ℕ → model.Event
event_at g t p = record { key = record { time = t; serial = g.serial }; names = model.in_place g p }

-- the number of places in its agenda
abbrev pub agenda_of : Graph → ℕ
agenda_of g = g.agenda

-- a row of a record
abbrev pub row_of : Row → model.Record → List ℕ
row_of row.References r = r.refs
row_of row.Words r = r.words

-- a record gets a reference or a word
abbrev pub with_entry : Row → model.Record → ℕ → ℕ → model.Record
with_entry row.References r i v = record { refs = slice_set r.refs i v; words = r.words }
with_entry row.Words r i v = record { refs = r.refs; words = slice_set r.words i v }

-- record `n` of the graph gets it
abbrev pub with_entry_of : model.Graph → ℕ → Row → ℕ → ℕ → model.Graph
with_entry_of g n k i v = model.with_record g n (with_entry k (model.record_at g n) i v)

-- record `n` of the graph is the one at index `i` of the row
abbrev pub Stands : Graph → ℕ → ℕ → Type 0
Stands g n i =
    (i < vec_len g.records) × (n ≡ i + 1)
    × ((r : Record) → model.record_at (graph_of g) n ≡ record_of (slice_index_or (vec_items g.records) i r))
