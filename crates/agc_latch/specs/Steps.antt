-- The views of new seats, and the four kinds of step: how each changes its view.
use Rattle.std.specs.Prelude.{ℕ, ◌+◌}
use Rattle.atomic_table.specs.Table.{Me}
use Rattle.agc_latch.specs.declared.views.View.{View}
use Rattle.agc_latch.specs.declared.views.Role.TheVariants.{Takes, Posts, Spent}
use Rattle.agc_latch.specs.Lines.{added, raised, zeros}

-- a seat's view, with the slots that it holds, of which this table has none
abbrev pub Seated : Type 0
Seated = Me (Unit {0}) View

-- the taker's view when the latch is made
abbrev pub first_view : View
first_view = record {
  role = Takes;
  posted = zeros;
  taken = zeros;
  takes = zeros;
  seats = 0;
  given = 0;
}

-- a new device's view
abbrev pub device_view : View
device_view = record {
  role = Posts;
  posted = zeros;
  taken = zeros;
  takes = zeros;
  seats = 1;
  given = 0;
}

-- the view of a device that came back
abbrev pub spent_view : View
spent_view = record {
  role = Spent;
  posted = zeros;
  taken = zeros;
  takes = zeros;
  seats = 0;
  given = 0;
}

-- post: one more pulse on line i
abbrev pub after_post : ℕ → View → View
after_post i v = record v { posted = raised i 1 v.posted }

-- take: once more on line i, and the n pulses that were found there
abbrev pub after_take : ℕ → ℕ → View → View
after_take i n v = record v { taken = raised i n v.taken; takes = raised i 1 v.takes }

-- split: one more device is given out
abbrev pub after_split : View → View
after_split v = record v { given = v.given + 1 }

-- join: the taker v has what the device w posted, and its seat
abbrev pub after_join : View → View → View
after_join v w = record v { posted = added v.posted w.posted; seats = v.seats + w.seats }
