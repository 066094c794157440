-- The decimal literals of all definitions. A name is the decimal that it stands for, a raised point for the decimal point; each pattern is that decimal rounded once. Assumes nothing.
use Rattle.std.specs.Prelude.{[], ◌∷◌, T, Float}
use Rattle.std.specs.Float.Ieee.{of_bits, round, to_bits}
use Rattle.binary64.specs.Operators.{f64}
use Rattle.binary64.specs.Decimal.{literal, are_decimals}

abbrev pub «0·0» : Float
«0·0» = f64 0

abbrev pub «5e-324» : Float
«5e-324» = f64 0x0000_0000_0000_0001

abbrev pub «1e-30» : Float
«1e-30» = f64 0x39b4_484b_feeb_c2a0

abbrev pub «1e-20» : Float
«1e-20» = f64 0x3bc7_9ca1_0c92_4223

abbrev pub «5·9e-18» : Float
«5·9e-18» = f64 0x3c5b_357d_957c_8a37

abbrev pub «1e-16» : Float
«1e-16» = f64 0x3c9c_d2b2_97d8_89bc

abbrev pub «1e-14» : Float
«1e-14» = f64 0x3d06_849b_86a1_2b9b

abbrev pub «1·5e-14» : Float
«1·5e-14» = f64 0x3d10_e374_a4f8_e0b4

abbrev pub «2e-14» : Float
«2e-14» = f64 0x3d16_849b_86a1_2b9b

abbrev pub «3·9e-14» : Float
«3·9e-14» = f64 0x3d25_f47e_09a9_f0ea

abbrev pub «2e-11» : Float
«2e-11» = f64 0x3db5_fd7f_e179_6495

abbrev pub «7·5e-11» : Float
«7·5e-11» = f64 0x3dd4_9da7_e361_ce4c

abbrev pub «1e-10» : Float
«1e-10» = f64 0x3ddb_7cdf_d9d7_bdbb

abbrev pub «2·6e-10» : Float
«2·6e-10» = f64 0x3df1_ddf7_e732_a1b9

abbrev pub «1e-9» : Float
«1e-9» = f64 0x3e11_2e0b_e826_d695

abbrev pub «1e-8» : Float
«1e-8» = f64 0x3e45_798e_e230_8c3a

abbrev pub «1e-7» : Float
«1e-7» = f64 0x3e7a_d7f2_9abc_af48

abbrev pub «1e-6» : Float
«1e-6» = f64 0x3eb0_c6f7_a0b5_ed8d

abbrev pub «1·25e-6» : Float
«1·25e-6» = f64 0x3eb4_f8b5_88e3_68f1

abbrev pub «2·5e-6» : Float
«2·5e-6» = f64 0x3ec4_f8b5_88e3_68f1

abbrev pub «3e-6» : Float
«3e-6» = f64 0x3ec9_2a73_7110_e454

abbrev pub «5e-6» : Float
«5e-6» = f64 0x3ed4_f8b5_88e3_68f1

abbrev pub «8·5e-6» : Float
«8·5e-6» = f64 0x3ee1_d367_1ac1_4c66

abbrev pub «1e-5» : Float
«1e-5» = f64 0x3ee4_f8b5_88e3_68f1

abbrev pub «1·25e-5» : Float
«1·25e-5» = f64 0x3eea_36e2_eb1c_432d

abbrev pub «2·5e-5» : Float
«2·5e-5» = f64 0x3efa_36e2_eb1c_432d

abbrev pub «8e-5» : Float
«8e-5» = f64 0x3f14_f8b5_88e3_68f1

abbrev pub «8·8e-5» : Float
«8·8e-5» = f64 0x3f17_1194_7cfa_26a2

abbrev pub «9e-5» : Float
«9e-5» = f64 0x3f17_97cc_39ff_d60f

abbrev pub «0·0001» : Float
«0·0001» = f64 0x3f1a_36e2_eb1c_432d

abbrev pub «0·0002» : Float
«0·0002» = f64 0x3f2a_36e2_eb1c_432d

abbrev pub «0·0004» : Float
«0·0004» = f64 0x3f3a_36e2_eb1c_432d

abbrev pub «0·0009765625» : Float
«0·0009765625» = f64 0x3f50_0000_0000_0000

abbrev pub «0·001» : Float
«0·001» = f64 0x3f50_624d_d2f1_a9fc

abbrev pub «0·0019» : Float
«0·0019» = f64 0x3f5f_212d_7731_8fc5

abbrev pub «0·00390625» : Float
«0·00390625» = f64 0x3f70_0000_0000_0000

abbrev pub «0·01» : Float
«0·01» = f64 0x3f84_7ae1_47ae_147b

abbrev pub «0·015625» : Float
«0·015625» = f64 0x3f90_0000_0000_0000

abbrev pub «0·0172» : Float
«0·0172» = f64 0x3f91_9ce0_75f6_fd22

abbrev pub «0·029» : Float
«0·029» = f64 0x3f9d_b22d_0e56_0419

abbrev pub «0·05» : Float
«0·05» = f64 0x3fa9_9999_9999_999a

abbrev pub «0·0626» : Float
«0·0626» = f64 0x3fb0_068d_b8ba_c711

abbrev pub «0·08» : Float
«0·08» = f64 0x3fb4_7ae1_47ae_147b

abbrev pub «0·1» : Float
«0·1» = f64 0x3fb9_9999_9999_999a

abbrev pub «0·12» : Float
«0·12» = f64 0x3fbe_b851_eb85_1eb8

abbrev pub «0·125» : Float
«0·125» = f64 0x3fc0_0000_0000_0000

abbrev pub «0·1387» : Float
«0·1387» = f64 0x3fc1_c0eb_edfa_43fe

abbrev pub «0·15» : Float
«0·15» = f64 0x3fc3_3333_3333_3333

abbrev pub «0·17» : Float
«0·17» = f64 0x3fc5_c28f_5c28_f5c3

abbrev pub «0·2» : Float
«0·2» = f64 0x3fc9_9999_9999_999a

abbrev pub «0·2808» : Float
«0·2808» = f64 0x3fd1_f8a0_902d_e00d

abbrev pub «0·3» : Float
«0·3» = f64 0x3fd3_3333_3333_3333

abbrev pub «0·364» : Float
«0·364» = f64 0x3fd7_4bc6_a7ef_9db2

abbrev pub «0·38» : Float
«0·38» = f64 0x3fd8_51eb_851e_b852

abbrev pub «0·4» : Float
«0·4» = f64 0x3fd9_9999_9999_999a

abbrev pub «0·4108» : Float
«0·4108» = f64 0x3fda_4a8c_154c_985f

abbrev pub «0·4465» : Float
«0·4465» = f64 0x3fdc_9374_bc6a_7efa

abbrev pub «0·45» : Float
«0·45» = f64 0x3fdc_cccc_cccc_cccd

abbrev pub «0·5» : Float
«0·5» = f64 0x3fe0_0000_0000_0000

abbrev pub «0·55» : Float
«0·55» = f64 0x3fe1_9999_9999_999a

abbrev pub «0·6» : Float
«0·6» = f64 0x3fe3_3333_3333_3333

abbrev pub «0·7222» : Float
«0·7222» = f64 0x3fe7_1c43_2ca5_7a78

abbrev pub «0·75» : Float
«0·75» = f64 0x3fe8_0000_0000_0000

abbrev pub «0·7984» : Float
«0·7984» = f64 0x3fe9_8c7e_2824_0b78

abbrev pub «0·8» : Float
«0·8» = f64 0x3fe9_9999_9999_999a

abbrev pub «0·85» : Float
«0·85» = f64 0x3feb_3333_3333_3333

abbrev pub «0·9» : Float
«0·9» = f64 0x3fec_cccc_cccc_cccd

abbrev pub «0·92» : Float
«0·92» = f64 0x3fed_70a3_d70a_3d71

abbrev pub «0·99» : Float
«0·99» = f64 0x3fef_ae14_7ae1_47ae

abbrev pub «0·999» : Float
«0·999» = f64 0x3fef_f7ce_d916_872b

abbrev pub «1·0» : Float
«1·0» = f64 0x3ff0_0000_0000_0000

abbrev pub «1·1» : Float
«1·1» = f64 0x3ff1_9999_9999_999a

abbrev pub «1·2» : Float
«1·2» = f64 0x3ff3_3333_3333_3333

abbrev pub «1·25» : Float
«1·25» = f64 0x3ff4_0000_0000_0000

abbrev pub «1·5» : Float
«1·5» = f64 0x3ff8_0000_0000_0000

abbrev pub «2·0» : Float
«2·0» = f64 0x4000_0000_0000_0000

abbrev pub «2·5» : Float
«2·5» = f64 0x4004_0000_0000_0000

abbrev pub «3·0» : Float
«3·0» = f64 0x4008_0000_0000_0000

abbrev pub «3·141592653589793» : Float
«3·141592653589793» = f64 0x4009_21fb_5444_2d18

abbrev pub «3·414» : Float
«3·414» = f64 0x400b_4fdf_3b64_5a1d

abbrev pub «3·45» : Float
«3·45» = f64 0x400b_9999_9999_999a

abbrev pub «3·8» : Float
«3·8» = f64 0x400e_6666_6666_6666

abbrev pub «4·0» : Float
«4·0» = f64 0x4010_0000_0000_0000

abbrev pub «4·2» : Float
«4·2» = f64 0x4010_cccc_cccc_cccd

abbrev pub «4·5» : Float
«4·5» = f64 0x4012_0000_0000_0000

abbrev pub «5·0» : Float
«5·0» = f64 0x4014_0000_0000_0000

abbrev pub «6·0» : Float
«6·0» = f64 0x4018_0000_0000_0000

abbrev pub «8·0» : Float
«8·0» = f64 0x4020_0000_0000_0000

abbrev pub «8·314» : Float
«8·314» = f64 0x4020_a0c4_9ba5_e354

abbrev pub «9·0» : Float
«9·0» = f64 0x4022_0000_0000_0000

abbrev pub «10·0» : Float
«10·0» = f64 0x4024_0000_0000_0000

abbrev pub «11·0» : Float
«11·0» = f64 0x4026_0000_0000_0000

abbrev pub «23·0» : Float
«23·0» = f64 0x4037_0000_0000_0000

abbrev pub «30·0» : Float
«30·0» = f64 0x403e_0000_0000_0000

abbrev pub «64·0» : Float
«64·0» = f64 0x4050_0000_0000_0000

abbrev pub «80·0» : Float
«80·0» = f64 0x4054_0000_0000_0000

abbrev pub «100·0» : Float
«100·0» = f64 0x4059_0000_0000_0000

abbrev pub «200·0» : Float
«200·0» = f64 0x4069_0000_0000_0000

abbrev pub «298·15» : Float
«298·15» = f64 0x4072_a266_6666_6666

abbrev pub «400·0» : Float
«400·0» = f64 0x4079_0000_0000_0000

abbrev pub «708·0» : Float
«708·0» = f64 0x4086_2000_0000_0000

abbrev pub «709·0» : Float
«709·0» = f64 0x4086_2800_0000_0000

abbrev pub «1000·0» : Float
«1000·0» = f64 0x408f_4000_0000_0000

abbrev pub «1024·0» : Float
«1024·0» = f64 0x4090_0000_0000_0000

abbrev pub «1200·0» : Float
«1200·0» = f64 0x4092_c000_0000_0000

abbrev pub «3000·0» : Float
«3000·0» = f64 0x40a7_7000_0000_0000

abbrev pub «3600·0» : Float
«3600·0» = f64 0x40ac_2000_0000_0000

abbrev pub «4096·0» : Float
«4096·0» = f64 0x40b0_0000_0000_0000

abbrev pub «10000·0» : Float
«10000·0» = f64 0x40c3_8800_0000_0000

abbrev pub «12000·0» : Float
«12000·0» = f64 0x40c7_7000_0000_0000

abbrev pub «17000·0» : Float
«17000·0» = f64 0x40d0_9a00_0000_0000

abbrev pub «20000·0» : Float
«20000·0» = f64 0x40d3_8800_0000_0000

abbrev pub «22806·0» : Float
«22806·0» = f64 0x40d6_4580_0000_0000

abbrev pub «24762·4» : Float
«24762·4» = f64 0x40d8_2e99_9999_999a

abbrev pub «25000·0» : Float
«25000·0» = f64 0x40d8_6a00_0000_0000

abbrev pub «25290·4» : Float
«25290·4» = f64 0x40d8_b299_9999_999a

abbrev pub «25466·4» : Float
«25466·4» = f64 0x40d8_de99_9999_999a

abbrev pub «26390·0» : Float
«26390·0» = f64 0x40d9_c580_0000_0000

abbrev pub «31833·0» : Float
«31833·0» = f64 0x40df_1640_0000_0000

abbrev pub «35000·0» : Float
«35000·0» = f64 0x40e1_1700_0000_0000

abbrev pub «49000·0» : Float
«49000·0» = f64 0x40e7_ed00_0000_0000

abbrev pub «51218·0» : Float
«51218·0» = f64 0x40e9_0240_0000_0000

abbrev pub «86400·0» : Float
«86400·0» = f64 0x40f5_1800_0000_0000

abbrev pub «90000·0» : Float
«90000·0» = f64 0x40f5_f900_0000_0000

abbrev pub «96485·0» : Float
«96485·0» = f64 0x40f7_8e50_0000_0000

abbrev pub «100000·0» : Float
«100000·0» = f64 0x40f8_6a00_0000_0000

abbrev pub «131072·0» : Float
«131072·0» = f64 0x4100_0000_0000_0000

abbrev pub «262144·0» : Float
«262144·0» = f64 0x4110_0000_0000_0000

abbrev pub «1e6» : Float
«1e6» = f64 0x412e_8480_0000_0000

abbrev pub «8·388608e6» : Float
«8·388608e6» = f64 0x4160_0000_0000_0000

abbrev pub «1e9» : Float
«1e9» = f64 0x41cd_cd65_0000_0000

abbrev pub «1e13» : Float
«1e13» = f64 0x42a2_309c_e540_0000

-- digits and places of each
pub literals : T (are_decimals
    (
    literal «0·0» 0 0 ∷
    literal «5e-324» 5 324 ∷
    literal «1e-30» 1 30 ∷
    literal «1e-20» 1 20 ∷
    literal «5·9e-18» 59 19 ∷
    literal «1e-16» 1 16 ∷
    literal «1e-14» 1 14 ∷
    literal «1·5e-14» 15 15 ∷
    literal «2e-14» 2 14 ∷
    literal «3·9e-14» 39 15 ∷
    literal «2e-11» 2 11 ∷
    literal «7·5e-11» 75 12 ∷
    literal «1e-10» 1 10 ∷
    literal «2·6e-10» 26 11 ∷
    literal «1e-9» 1 9 ∷
    literal «1e-8» 1 8 ∷
    literal «1e-7» 1 7 ∷
    literal «1e-6» 1 6 ∷
    literal «1·25e-6» 125 8 ∷
    literal «2·5e-6» 25 7 ∷
    literal «3e-6» 3 6 ∷
    literal «5e-6» 5 6 ∷
    literal «8·5e-6» 85 7 ∷
    literal «1e-5» 1 5 ∷
    literal «1·25e-5» 125 7 ∷
    literal «2·5e-5» 25 6 ∷
    literal «8e-5» 8 5 ∷
    literal «8·8e-5» 88 6 ∷
    literal «9e-5» 9 5 ∷
    literal «0·0001» 1 4 ∷
    literal «0·0002» 2 4 ∷
    literal «0·0004» 4 4 ∷
    literal «0·0009765625» 9765625 10 ∷
    literal «0·001» 1 3 ∷
    literal «0·0019» 19 4 ∷
    literal «0·00390625» 390625 8 ∷
    literal «0·01» 1 2 ∷
    literal «0·015625» 15625 6 ∷
    literal «0·0172» 172 4 ∷
    literal «0·029» 29 3 ∷
    literal «0·05» 5 2 ∷
    literal «0·0626» 626 4 ∷
    literal «0·08» 8 2 ∷
    literal «0·1» 1 1 ∷
    literal «0·12» 12 2 ∷
    literal «0·125» 125 3 ∷
    literal «0·1387» 1387 4 ∷
    literal «0·15» 15 2 ∷
    literal «0·17» 17 2 ∷
    literal «0·2» 2 1 ∷
    literal «0·2808» 2808 4 ∷
    literal «0·3» 3 1 ∷
    literal «0·364» 364 3 ∷
    literal «0·38» 38 2 ∷
    literal «0·4» 4 1 ∷
    literal «0·4108» 4108 4 ∷
    literal «0·4465» 4465 4 ∷
    literal «0·45» 45 2 ∷
    literal «0·5» 5 1 ∷
    literal «0·55» 55 2 ∷
    literal «0·6» 6 1 ∷
    literal «0·7222» 7222 4 ∷
    literal «0·75» 75 2 ∷
    literal «0·7984» 7984 4 ∷
    literal «0·8» 8 1 ∷
    literal «0·85» 85 2 ∷
    literal «0·9» 9 1 ∷
    literal «0·92» 92 2 ∷
    literal «0·99» 99 2 ∷
    literal «0·999» 999 3 ∷
    literal «1·0» 1 0 ∷
    literal «1·1» 11 1 ∷
    literal «1·2» 12 1 ∷
    literal «1·25» 125 2 ∷
    literal «1·5» 15 1 ∷
    literal «2·0» 2 0 ∷
    literal «2·5» 25 1 ∷
    literal «3·0» 3 0 ∷
    literal «3·141592653589793» 3141592653589793 15 ∷
    literal «3·414» 3414 3 ∷
    literal «3·45» 345 2 ∷
    literal «3·8» 38 1 ∷
    literal «4·0» 4 0 ∷
    literal «4·2» 42 1 ∷
    literal «4·5» 45 1 ∷
    literal «5·0» 5 0 ∷
    literal «6·0» 6 0 ∷
    literal «8·0» 8 0 ∷
    literal «8·314» 8314 3 ∷
    literal «9·0» 9 0 ∷
    literal «10·0» 10 0 ∷
    literal «11·0» 11 0 ∷
    literal «23·0» 23 0 ∷
    literal «30·0» 30 0 ∷
    literal «64·0» 64 0 ∷
    literal «80·0» 80 0 ∷
    literal «100·0» 100 0 ∷
    literal «200·0» 200 0 ∷
    literal «298·15» 29815 2 ∷
    literal «400·0» 400 0 ∷
    literal «708·0» 708 0 ∷
    literal «709·0» 709 0 ∷
    literal «1000·0» 1000 0 ∷
    literal «1024·0» 1024 0 ∷
    literal «1200·0» 1200 0 ∷
    literal «3000·0» 3000 0 ∷
    literal «3600·0» 3600 0 ∷
    literal «4096·0» 4096 0 ∷
    literal «10000·0» 10000 0 ∷
    literal «12000·0» 12000 0 ∷
    literal «17000·0» 17000 0 ∷
    literal «20000·0» 20000 0 ∷
    literal «22806·0» 22806 0 ∷
    literal «24762·4» 247624 1 ∷
    literal «25000·0» 25000 0 ∷
    literal «25290·4» 252904 1 ∷
    literal «25466·4» 254664 1 ∷
    literal «26390·0» 26390 0 ∷
    literal «31833·0» 31833 0 ∷
    literal «35000·0» 35000 0 ∷
    literal «49000·0» 49000 0 ∷
    literal «51218·0» 51218 0 ∷
    literal «86400·0» 86400 0 ∷
    literal «90000·0» 90000 0 ∷
    literal «96485·0» 96485 0 ∷
    literal «100000·0» 100000 0 ∷
    literal «131072·0» 131072 0 ∷
    literal «262144·0» 262144 0 ∷
    literal «1e6» 1000000 0 ∷
    literal «8·388608e6» 8388608 0 ∷
    literal «1e9» 1000000000 0 ∷
    literal «1e13» 10000000000000 0 ∷
    []))
unfolding are_decimals of_bits round to_bits
literals = tt
