pub mod EarlierOhmicDrop
