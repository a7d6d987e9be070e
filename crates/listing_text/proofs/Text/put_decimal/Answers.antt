-- `put_decimal`: the digits end where as many bytes end as the number has digits. Assumes nothing.
use Rattle.std.proofs.Common.{length, ap, arith, rules}
use Rattle.listing_text.proofs.Decimals.{decimal_same, digits_wrote}
use Rattle.listing_text.proofs.Text.put_decimal.Goals as goal

pub write_digits-requires : goal.write_digits-requires
write_digits-requires c = (omega (arith, c.digit_count.ensures, ap length (decimal_same c.args.n (omega arith))), omega (arith, c.digit_count.ensures, c.requires.enough))

pub returns : goal.returns
returns c = record {
  same = search rules;
  wrote = digits_wrote _ _ _ c.args.n _ _ (omega arith) c.requires (omega (arith, c.digit_count.ensures)) c.write_digits.ensures.start c.write_digits.ensures.written c.write_digits.ensures.before;
}
