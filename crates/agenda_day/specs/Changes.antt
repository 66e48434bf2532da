-- What a change makes of an agenda's numbers and keys, and what it is to answer alike. Assumes nothing.
use Rattle.std.specs.Prelude.{◌≡◌, ℕ, List, get_or, Some, None, Option, slice_index, slice_index_or, slice_set}
use Rattle.holders.specs.declared.key.Key.{Key}
use Rattle.holders.specs.Keys.{first_of, spare_of}
use Rattle.agenda_day.specs.declared.change.Change.{Change}
use Rattle.agenda_day.specs.declared.change.Change.TheVariants.{Put, KeyPlace, Unkey}

abbrev pub numbers_after : Change → List ℕ → List ℕ
numbers_after (Put place number) ns = slice_set ns place number
numbers_after (KeyPlace place key) ns = ns
numbers_after (Unkey place) ns = ns

abbrev pub keys_after : Change → List (Option Key) → List (Option Key)
keys_after (Put place number) ks = ks
keys_after (KeyPlace place key) ks = slice_set ks place (Some key)
keys_after (Unkey place) ks = slice_set ks place None

-- agendas of the numbers ns and ms and the keys ks and ls answer every question about p, and which is first and which is spare, alike
pub record SameAnswers (ns : List ℕ) (ks : List (Option Key)) (ms : List ℕ) (ls : List (Option Key)) (p : ℕ) : Type 0 where
  pub first : first_of ks ≡ first_of ls
  pub spare : spare_of ks ≡ spare_of ls
  pub number : get_or ns p 0 ≡ slice_index ms p
  pub key : get_or ks p None ≡ slice_index_or ls p None
