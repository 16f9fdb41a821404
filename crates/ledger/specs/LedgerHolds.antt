-- THE LEDGER HOLDS: every fact by working out both sides.
-- Assumes nothing.
use Rattle.std.specs.Prelude.{refl}
use Rattle.geometry.specs.Buckets.{reaches, bucket_of}
use Rattle.geometry.specs.Rectangles.{empty_rect}
use Rattle.geometry.specs.Sides.{natural, sheet_side, valid_setup, setup_of}
use Rattle.rounding.specs.Rounding.{round_up, rounded, request_of}
use Rattle.geometry.specs.Choice.{lesser}
use Rattle.cuts.specs.Cuts.{area_compared, exact_fit, cut_way, cut_of}
use Rattle.slots.specs.Slots.{kind_of, orientation_of}
use Rattle.stores.specs.Stores.{set_word, stored_rect, stored}
use Rattle.table.specs.Table.{word, node_at}
use Rattle.lists.specs.Lists.{first_of}
use Rattle.pushes.specs.Pushes.{has_room, pushed}
use Rattle.buckets.specs.FreeLists.{entry_in, entry_of, forgotten}
use Rattle.fits.specs.Scans.{better, opening, weighed, look, looking}
use Rattle.choices.specs.Choices.{scan_bucket, search_one}
use Rattle.search.specs.Search.{search_up, gone_on, find_suitable}
use Rattle.steps.specs.Spares.{new_node, marked_unused, of_kind, count_kind}
use Rattle.lent.specs.Lent.{list_length, lent_lengths}
use Rattle.lone.specs.Lone.{lone_free}
use Rattle.grants.specs.Carves.{news_of, turned, answered_by, beside, pair_under, carved}
use Rattle.grants.specs.Grants.{pieces_entered, taken, cut_for, grant_of, granted}
use Rattle.grants.specs.Shapes.{shape_of}
use Rattle.sheets.specs.Sheets.{started}
use Rattle.starts.specs.Starts.{start_call}
use Rattle.allocate.specs.Allocate.{allocated_for, allocated}
use Rattle.frees.specs.Climbs.{absorbed, next_absorbed, absorbed_by_prev, is_only_child, given_up, climbed}
use Rattle.frees.specs.Frees.{climb_of, released}
use Rattle.grows.specs.Grows.{growth, last_from, stretched, appended_to, grown_along, reparented, grown_across, grown_both, grown, grow_slots}
use Rattle.grows.specs.Refusals.{is_smaller, grow_answer}
use Rattle.live.specs.Live.{ticket_answer}
use Rattle.audit.specs.Answers.{after_check}
use Rattle.ledger.specs.Days.{in_use_below}
use Rattle.ledger.specs.Ledger.{Ledger}

pub ledger_holds : Ledger
unfolding reaches bucket_of empty_rect natural sheet_side valid_setup setup_of round_up rounded request_of area_compared exact_fit cut_way cut_of kind_of orientation_of stored_rect stored word set_word node_at first_of has_room pushed entry_in entry_of forgotten lesser better opening weighed look looking scan_bucket search_one search_up gone_on find_suitable new_node marked_unused of_kind count_kind list_length lent_lengths news_of turned answered_by beside pair_under carved pieces_entered taken cut_for grant_of granted shape_of started start_call allocated_for allocated absorbed next_absorbed absorbed_by_prev is_only_child given_up climbed climb_of released growth last_from stretched appended_to grown_along reparented grown_across lone_free grown_both grown grow_slots is_smaller grow_answer ticket_answer after_check in_use_below
ledger_holds =
    record {
      first_is = (refl, refl, refl);
      second_is = (refl, refl, refl);
      third_is = ((refl, refl, refl), refl, refl);
      fourth_is = refl;
      freed_4_then_6 = (refl, refl, refl, refl, refl);
      freed_6_then_4 = (refl, refl, refl, refl);
      fifth_is = (refl, refl, refl);
      whole_twice = ((refl, refl, refl), (refl, refl, refl));
      grown_larger = (refl, refl, refl, refl, refl);
      then_on_larger = (refl, refl, refl);
      needs_five = (refl, refl);
      widest_is = (refl, refl);
    }
