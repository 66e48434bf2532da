-- The worked examples, by computation.
use Rattle.std.proofs.Common.{refl}
use Rattle.model.specs.Maps.{has}
use Rattle.model.specs.Worked.{Worked}

pub worked : Worked
unfolding has
worked = record {
  a_collection_of_163_units = refl;
  thirty_references_are_made = refl;
  one_word_more_is_too_large = refl;
  sizes_are_added_as_whole_numbers = refl;
  seventeen_words_take_the_class_of_eighteen = refl;
  two_words_take_the_class_of_four = refl;
  a_full_store_has_no_room = refl;
  events_of_one_time_come_in_order_of_scheduling = refl;
  two_and_six_are_finished_in_five_units = (refl, refl);
  two_and_seven_are_finished_in_one_unit = refl;
  a_step_of_nothing_does_no_unit = refl;
  the_class_table_follows_its_rule = refl;
}
