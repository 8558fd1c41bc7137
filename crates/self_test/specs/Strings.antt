-- The strings of NIST's cases, as the code has them.
use Rattle.self_test.specs.Cases.{Reseeded, Fresh}
use Rattle.self_test.specs.declared.cases.Reseeded as of-reseeded
use Rattle.self_test.specs.declared.cases.Fresh as of-fresh

abbrev pub reseeded_of : of-reseeded.Reseeded → Reseeded
reseeded_of p =
    record {
      entropy1 = p.entropy1.now;
      nonce = p.nonce.now;
      personalization = p.personalization.now;
      entropy2 = p.entropy2.now;
      additional2 = p.additional2.now;
      additional3 = p.additional3.now;
      additional4 = p.additional4.now;
      returned = p.returned.now;
    }

abbrev pub fresh_of : of-fresh.Fresh → Fresh
fresh_of p =
    record {
      entropy1 = p.entropy1.now;
      nonce = p.nonce.now;
      personalization = p.personalization.now;
      entropy2 = p.entropy2.now;
      additional2 = p.additional2.now;
      entropy3 = p.entropy3.now;
      additional3 = p.additional3.now;
      returned = p.returned.now;
    }
