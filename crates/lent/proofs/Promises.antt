-- The promises of the crate `lent` hold. Assumes nothing.
use Rattle.lent.specs.Promises.{Promises}
use Rattle.lent.proofs.StoreLaws.{
  lent_store-record,
  lent_store-symbol,
  lent_store-room,
  lent_store-name_room,
  lent_store-once,
  records_after-same,
  entries_after-same,
  lent_store-after,
}

pub promises : Promises
promises = record {
  same_record = λ ts ns n m i s h. lent_store-record ts ns n m i s.0 h;
  same_name = λ ts ns n m k s h short. lent_store-symbol ts ns n m k s.1 h short;
  room = λ ts ns n m s. lent_store-room ts ns n m s.0;
  name_room = λ ts ns n m s. lent_store-name_room ts ns n m s.1;
  unchanged = λ ts ns n m s. records_after-same ts ns n m s.0;
  unchanged_names = entries_after-same;
  after = lent_store-after;
  once = λ ts ts' ns ns' n m s s' e. lent_store-once ts ts' ns ns' n m s.0 s'.0 s.1 s'.1 e;
}
