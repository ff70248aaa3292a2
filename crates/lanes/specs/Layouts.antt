-- The two lanes of a layout.
use Rattle.lanes.specs.Sizes.{active_heads, far_heads}
use Rattle.lanes.specs.declared.Lane.{Lane}
use Rattle.lanes.specs.declared.layout.Layout.{Layout}

abbrev pub active_lane : Layout → Lane
active_lane p = record { end = 0; count = p.used; heads = active_heads; linked = p.linked }

abbrev pub far_lane : Layout → Lane
far_lane p = record { end = p.capacity; count = p.far; heads = far_heads; linked = p.far_linked }
