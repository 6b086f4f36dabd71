-- `carries::climb_word`: the carries of a sum. Assumes nothing.
use Rattle.std.proofs.Common.{◌+◌, ◌%◌, ◌^◌, ◌<◌, refl, bit_and, rules, mod-lt, lit<}
use lib.Bits.{xor_lt, and_lt}
use Rattle.carries.proofs.Carry.{climb_exactly}
use borrow.Author.Rules.{rules}
use Rattle.carries.proofs.climb_word.Goals as goal

pub returns : goal.returns
returns c =
    let a = c.args in
    let f : a.free < 2 ^ 64 = search rules in
    let g : a.s < 2 ^ 64 = search rules in
    let sum : (bit_and a.s a.free + a.free) % 2 ^ 64 < 2 ^ 64 = mod-lt _ (lit< tt) in
    climb_exactly a.free a.s 64 refl refl refl refl (xor_lt 64 _ _ (xor_lt 64 _ _ sum (and_lt 64 _ _ g f)) f)
