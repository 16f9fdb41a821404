use Rattle.listings.proofs.ListingLaws.{listing_short, listing_room, listing_done}
use Rattle.listings.proofs.list_slots.Goals as goal

pub returns-then-out-count : goal.returns-then-out-count
returns-then-out-count c = listing_short _ _ _ _ _ c.count_kind-count.ensures.0 c.entry_words.ensures.0 c.if-out-count.true

pub fill-requires : goal.fill-requires
fill-requires c = (c.requires, listing_room _ _ _ _ c.args.out.now c.count_kind-count.ensures.0 c.entry_words.ensures.0 c.if-out-count.false)

pub returns : goal.returns
returns c = listing_done _ _ _ _ c.args.out.now c.count_kind-count.ensures.0 c.entry_words.ensures.0 c.if-out-count.false c.fill.ensures
