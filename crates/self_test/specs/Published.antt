-- Made by second/make_self_test.py: NIST's cases, their strings as they stand in the named files.
use Rattle.std.specs.Prelude.{◌++◌}
use Rattle.standard.specs.Strings.{bytes_of}
use Rattle.self_test.specs.Cases.{Reseeded, Fresh}

-- vectors/drbg/pr_false/HMAC_DRBG.rsp, line 5544
unfoldable pub hmac_reseeded : Reseeded
hmac_reseeded =
    record {
      entropy1 = bytes_of 32 0xcdb0d9117cc6dbc9ef9dcb06a97579841d72dc18b2d46a1cb61e314012bdf416;
      nonce = bytes_of 16 0xd0c0d01d156016d0eb6b7e9c7c3c8da8;
      personalization = bytes_of 32 0x6f0fb9eab3f9ea7ab0a719bfa879bf0aaed683307fda0c6d73ce018b6e34faaa;
      entropy2 = bytes_of 32 0x8ec6f7d5a8e2e88f43986f70b86e050d07c84b931bcf18e601c5a3eee3064c82;
      additional2 = bytes_of 32 0x1ab4ca9014fa98a55938316de8ba5a68c629b0741bdd058c4d70c91cda5099b3;
      additional3 = bytes_of 32 0x16e2d0721b58d839a122852abd3bf2c942a31c84d82fca74211871880d7162ff;
      additional4 = bytes_of 32 0x53686f042a7b087d5d2eca0d2a96de131f275ed7151189f7ca52deaa78b79fb2;
      returned =
          bytes_of 32 0xdda04a2ca7b8147af1548f5d086591ca4fd951a345ce52b3cd49d47e84aa31a1 ++
          bytes_of 32 0x83e31fbc42a1ff1d95afec7143c8008c97bc2a9c091df0a763848391f68cb4a3 ++
          bytes_of 32 0x66ad89857ac725a53b303ddea767be8dc5f605b1b95f6d24c9f06be65a973a08 ++
          bytes_of 32 0x9320b3cc42569dcfd4b92b62a993785b0301b3fc452445656fce22664827b88f;
    }

-- vectors/drbg/pr_false/Hash_DRBG.rsp, line 5546
unfoldable pub hash_reseeded : Reseeded
hash_reseeded =
    record {
      entropy1 = bytes_of 32 0x6c623aea73bc8a59e28c6cd9c7c7ec8ca2e75190bd5dcae5978cf0c199c23f4f;
      nonce = bytes_of 16 0xe55db067a0ed537e66886b7cda02f772;
      personalization = bytes_of 32 0x1e59d798810083d1ff848e90b25c9927e3dfb55a0888b0339566a9f9ca7542dc;
      entropy2 = bytes_of 32 0x9ab40164744c7d00c78b4196f6f917ec33d70030a0812cd4606c5a25387568a9;
      additional2 = bytes_of 32 0x4e8bead7cbba7a7bc9ae1e1617222c4139661347599950e7225d1e2faa5d57f5;
      additional3 = bytes_of 32 0xdcb22a5d9f149858636f3ede2253e419816fb7b1103194451ed6a573a8fe6271;
      additional4 = bytes_of 32 0x8f9d5c78cdabc32e71ac3b3c49239caddf96053250f4fd92056efbd0be487d36;
      returned =
          bytes_of 32 0x6e98a3b1f686f6ffa79355c9d8a5ab7f93312159d52659a2298315f10007c71a ++
          bytes_of 32 0xdabc0b5ccb4164c0949fbdb221b43acdb62bed3099596f2d7bd5d0048173dd23 ++
          bytes_of 32 0x60a543b234ab61a441ddb9299af84ca45c6e618fd521366dbf509d4ec06174da ++
          bytes_of 32 0x924361d642b107e5564ac1b32340dd2f3158bf4c00bcb4dcf12c6d67af4b74ee;
    }

-- vectors/drbg/pr_true/HMAC_DRBG.rsp, line 5544
unfoldable pub hmac_fresh : Fresh
hmac_fresh =
    record {
      entropy1 = bytes_of 32 0x4294671d493dc085b5184607d7de2ff2b6aceb734a1b026f6cfee7c5a90f03da;
      nonce = bytes_of 16 0xd071544e599235d5eb38b64b551d2a6e;
      personalization = bytes_of 32 0x63bc769ae1d95a98bde870e4db7776297041d37c8a5c688d4e024b78d83f4d78;
      entropy2 = bytes_of 32 0xdb9b4790b62336fbb9a684b82947065393eeef8f57bd2477141ad17e776dac34;
      additional2 = bytes_of 32 0x28848becd3f47696f124f4b14853a456156f69be583a7d4682cff8d44b39e1d3;
      entropy3 = bytes_of 32 0x4a9abe80f6f522f29878bedf8245b27940a76471006fb4a4110beb4decb6c341;
      additional3 = bytes_of 32 0x8bfce0b7132661c3cd78175d83926f643e36f7608eec2c5dac3ddcbacc8c2182;
      returned =
          bytes_of 32 0xe580dc969194b2b18a97478aef9d1a72390aff14562747bf080d741527a6655c ++
          bytes_of 32 0xe7fc135325b457483a9f9c70f91165a811cf4524b50d51199a0df3bd60d12aba ++
          bytes_of 32 0xc27d0bf6618e6b114e05420352e23f3603dfe8a225dc19b3d1fff1dc245dc6b1 ++
          bytes_of 32 0xdf24c741744bec3f9437dbbf222df84881a457a589e7815ef132f686b760f012;
    }

-- vectors/drbg/pr_true/Hash_DRBG.rsp, line 5544
unfoldable pub hash_fresh : Fresh
hash_fresh =
    record {
      entropy1 = bytes_of 32 0x29e1a42709b7e84dbe50788fbad8cb609c127eec3262636a513fd9059fb8bae4;
      nonce = bytes_of 16 0xf3a521f28dffbd97574c405b69b636ad;
      personalization = bytes_of 32 0xc99a1147d8db401f4fcf763867296758e26404a30a4a9fa496a717f21f5d749b;
      entropy2 = bytes_of 32 0xd5266c01e10d72dd7e8a3bf717cccb8f643ca233314e3e74f106f46b090e5c73;
      additional2 = bytes_of 32 0x17254ea392aead0dc94992d867813497d3fd6dc7669667150afe6c28a2b89946;
      entropy3 = bytes_of 32 0xc7e5f03d26bdf9553338e64ba64ce5b5751b04f9c69992221495f2227b9799d0;
      additional3 = bytes_of 32 0x157dde59ceb2c662c8665fbe623ec75873fd0c5ccce79a9f5b7098ec8ed77b67;
      returned =
          bytes_of 32 0xe304de9ffd885cf917ead78f05939b8cf54709fc2d0c799a98b5434863372044 ++
          bytes_of 32 0x77b1060bceae2a22f7ff42b6cb4b4bc0610ae2b67558a7c54b65e45bb9f1a869 ++
          bytes_of 32 0x81b74705b48cdbf7d8decf87868267bd948e9394aa4357f8dbbf30612a0eb5b1 ++
          bytes_of 32 0x31884c220e442d36778e8d74091d8a27c070fe690469e07f3aabeef7c629bfab;
    }
