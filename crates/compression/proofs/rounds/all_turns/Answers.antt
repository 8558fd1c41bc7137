-- Twenty-four times two turns and the two words that take the places of theirs, then sixteen turns. mₙ is what is known once n turns are
-- made and their words have gone.
use Rattle.std.proofs.Common.{refl, lit≤}
use Rattle.standard.proofs.Ring.{turned_then, midway_first, midway_two, midway_last}
use Rattle.compression.proofs.rounds.all_turns.Goals as goal

pub returns : goal.returns
returns c = λ block is-K first.
    let m₀ = midway_first (lit≤ tt) is-K first in
    let m₂ = midway_two 0 c.two_turns-s2.ensures c.with_two-w18.ensures refl m₀ in
    let m₄ = midway_two 2 c.two_turns-s4.ensures c.with_two-w20.ensures refl m₂ in
    let m₆ = midway_two 4 c.two_turns-s6.ensures c.with_two-w22.ensures refl m₄ in
    let m₈ = midway_two 6 c.two_turns-s8.ensures c.with_two-w24.ensures refl m₆ in
    let m₁₀ = midway_two 8 c.two_turns-s10.ensures c.with_two-w26.ensures refl m₈ in
    let m₁₂ = midway_two 10 c.two_turns-s12.ensures c.with_two-w28.ensures refl m₁₀ in
    let m₁₄ = midway_two 12 c.two_turns-s14.ensures c.with_two-w30.ensures refl m₁₂ in
    let m₁₆ = midway_two 14 c.two_turns-s16.ensures c.with_two-w32.ensures refl m₁₄ in
    let m₁₈ = midway_two 16 c.two_turns-s18.ensures c.with_two-w34.ensures refl m₁₆ in
    let m₂₀ = midway_two 18 c.two_turns-s20.ensures c.with_two-w36.ensures refl m₁₈ in
    let m₂₂ = midway_two 20 c.two_turns-s22.ensures c.with_two-w38.ensures refl m₂₀ in
    let m₂₄ = midway_two 22 c.two_turns-s24.ensures c.with_two-w40.ensures refl m₂₂ in
    let m₂₆ = midway_two 24 c.two_turns-s26.ensures c.with_two-w42.ensures refl m₂₄ in
    let m₂₈ = midway_two 26 c.two_turns-s28.ensures c.with_two-w44.ensures refl m₂₆ in
    let m₃₀ = midway_two 28 c.two_turns-s30.ensures c.with_two-w46.ensures refl m₂₈ in
    let m₃₂ = midway_two 30 c.two_turns-s32.ensures c.with_two-w48.ensures refl m₃₀ in
    let m₃₄ = midway_two 32 c.two_turns-s34.ensures c.with_two-w50.ensures refl m₃₂ in
    let m₃₆ = midway_two 34 c.two_turns-s36.ensures c.with_two-w52.ensures refl m₃₄ in
    let m₃₈ = midway_two 36 c.two_turns-s38.ensures c.with_two-w54.ensures refl m₃₆ in
    let m₄₀ = midway_two 38 c.two_turns-s40.ensures c.with_two-w56.ensures refl m₃₈ in
    let m₄₂ = midway_two 40 c.two_turns-s42.ensures c.with_two-w58.ensures refl m₄₀ in
    let m₄₄ = midway_two 42 c.two_turns-s44.ensures c.with_two-w60.ensures refl m₄₂ in
    let m₄₆ = midway_two 44 c.two_turns-s46.ensures c.with_two-w62.ensures refl m₄₄ in
    let m₄₈ = midway_two 46 c.two_turns-s48.ensures c.with_two-w64.ensures refl m₄₆ in
    midway_last 48
    (turned_then 48 c.two_turns-s50.ensures (turned_then 50 c.two_turns-s52.ensures (turned_then 52 c.two_turns-s54.ensures
    (turned_then 54 c.two_turns-s56.ensures (turned_then 56 c.two_turns-s58.ensures (turned_then 58 c.two_turns-s60.ensures
    (turned_then 60 c.two_turns-s62.ensures c.two_turns.ensures))))))) refl m₄₈
