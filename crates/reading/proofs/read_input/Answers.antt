-- `read_input`: what a turn reads stands in the room behind what was read before.
use Rattle.std.proofs.Common.{◌≡◌, ℕ, ◌+◌, ◌-◌, ◌≤◌, List, ◌++◌, rules, length, take, drop, sym, ap, ◌∙◌, subst, le_refl, drop_at, length-take-le}
use Rattle.std.proofs.lemmas.Slice.{take-put_mid_below}
use Rattle.std.specs.Io.KnownBytes.{Consumes}
use Rattle.std.proofs.KnownBytes.{Consumes-trans, Consumes-nil}
use borrow.Rule.Slice.PartMut.{put_mid, post_of, same_len_mid, mid_len}
use lib.Seq.{take-add, take-append-le}
use Rattle.reading.proofs.read_input.Goals as goal

take_filled : (a k n : ℕ) (xs ys : List ℕ) → a ≤ length xs → n ≤ length ys → take (a + n) (put_mid a k xs ys) ≡ take a xs ++ take n ys
take_filled a k n xs ys within fits =
    let after = post_of a k xs in
    take-add a n (put_mid a k xs ys)
    ∙ ap (λ l. l ++ take n (drop a (put_mid a k xs ys))) (take-put_mid_below a k xs ys a (le_refl _) within)
    ∙ ap (λ l. take a xs ++ take n l) (drop_at (take a xs) (ys ++ after) a (length-take-le a xs within))
    ∙ ap (λ l. take a xs ++ l) (take-append-le n ys after fits)

pub loop-init : goal.loop-init
loop-init g c = (search rules, search rules, search rules, Consumes-nil _)

pub loop-preserved : goal.loop-preserved
loop-preserved g c =
    let part : length c.read.new.buf ≡ 65536 - c.loop.done = search rules in
    let long = same_len_mid c.loop.done _ _ _ (part ∙ sym (mid_len c.loop.done 65536 c.loop.room (search rules))) in
    let filled = take_filled c.loop.done (65536 - c.loop.done) c.in_ok-n.n c.loop.room c.read.new.buf (search rules) c.in_ok-n.ensures.bound.0 in
    (search rules, search rules, long ∙ c.loop.invariant.2, subst (Consumes _ _) (sym filled) (Consumes-trans _ _ _ _ _ c.loop.invariant.3 c.in_ok-n.ensures.bytes.0))
