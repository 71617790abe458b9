-- Document 01's marked example 1, and records that do not read.
use Rattle.std.specs.Prelude.{◌≡◌, refl, [], ◌∷◌, pos}
use Rattle.numbers.specs.Seven.{groups, unbounded}
use Rattle.numbers.specs.Several.{write_of, many}
use Rattle.fields.specs.Fields.{kinds}
use Rattle.folding.specs.Fold.{folded}
use Rattle.records.specs.Records.{entry, writing, unread, parsed, reading}

-- "The trade above is 08 98 8B 02 88 12 C1 84 3D C2 84 3D 04 F8 E8 02."
pub example-1 : writing (entry 8 (34200 ∷ 2312 ∷ 1000001 ∷ 1000002 ∷ 4 ∷ folded (pos 23100) ∷ []) [])
    ≡ 0x08 ∷ 0x98 ∷ 0x8B ∷ 0x02 ∷ 0x88 ∷ 0x12 ∷ 0xC1 ∷ 0x84 ∷ 0x3D ∷ 0xC2 ∷ 0x84 ∷ 0x3D ∷ 0x04 ∷ 0xF8 ∷ 0xE8 ∷ 0x02 ∷ []
unfolding writing write_of groups folded
example-1 = refl

start-read : reading (0 ∷ 5 ∷ 6 ∷ 2 ∷ 9 ∷ 172 ∷ 2 ∷ 77 ∷ []) ≡ parsed (entry 0 (5 ∷ 6 ∷ 2 ∷ []) (9 ∷ 300 ∷ [])) (77 ∷ [])
unfolding reading many unbounded kinds
start-read = refl

start-cut : reading (0 ∷ 5 ∷ 6 ∷ 2 ∷ 9 ∷ []) ≡ unread
unfolding reading many unbounded kinds
start-cut = refl

too-many-exceptions : reading (0 ∷ 5 ∷ 6 ∷ 145 ∷ 3 ∷ 1 ∷ []) ≡ unread
unfolding reading many unbounded kinds
too-many-exceptions = refl

unknown-kind : reading (13 ∷ 1 ∷ []) ≡ unread
unfolding reading unbounded kinds
unknown-kind = refl
