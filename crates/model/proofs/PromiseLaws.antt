-- The promises are kept: after any list of calls, refused ones included.
use Rattle.std.specs.Prelude.{List}
use Rattle.records.specs.Records.{Entry}
use Rattle.model.specs.History.{run}
use Rattle.model.specs.Promises.{Promises}
use Rattle.model.specs.RefusalLaws.{without-refused}
use Rattle.model.proofs.TradeLaws.{trades-kept}
use Rattle.model.proofs.ListedLaws.{passed-unlisted, ended-passed, opens}
use Rattle.model.proofs.OpenDayLaws.{days-told, opens-only, never-four, refused-kept}
use Rattle.model.proofs.VariationLaws.{trade-by-trade, net-is}
use Rattle.model.proofs.ZeroLaws.{lots-cancel, variation-cancels}
use Rattle.model.proofs.MoneyLaws.{money-stays, house-owes, house-unpaid, all-contracts}
use Rattle.model.proofs.CloseLaws.{closes_kept}
use Rattle.model.specs.SizedLaws.{sums-fit}
use Rattle.model.proofs.KeptLaws.{known, kept-bounded}

pub promises : (h : List Entry) → Promises h
promises h = record {
  trade-by-trade = trade-by-trade h;
  nets = net-is h;
  lots-cancel = lots-cancel h;
  variation-cancels = variation-cancels h;
  money-stays = money-stays h;
  house-owes = house-owes h;
  house-unpaid = house-unpaid h;
  all-contracts = all-contracts h;
  deals = trades-kept (run h);
  closes = closes_kept h;
  refusals = refused-kept (run h) (known h).listed;
  without-refused = without-refused h;
  bounds = kept-bounded (known h);
  fits = sums-fit;
  days-told = days-told (run h) (known h).listed;
  opens-only = opens-only (run h);
  never-four = λ e. never-four (run h) e (known h).listed;
  opens = opens (run h) (known h).listed (known h).framed;
  ended-for-good = λ c e. passed-unlisted (run h) (known h).listed c (ended-passed c h e);
}
